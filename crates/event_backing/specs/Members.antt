-- How the list of witnesses that is kept is seen: the keys of all, and of those that were added.
use Rattle.std.specs.Prelude.{false, List, filter, map}
use Rattle.cesr_codes.specs.declared.key.Key.{Key}
use Rattle.event_backing.specs.Backing.{Backing}
use Rattle.event_backing.specs.declared.witness.Witness.{Witness}

-- a witness that wasn't added
abbrev pub fresh_witness : Key → Witness
fresh_witness key = record { key = key; added = false }

-- the keys of witnesses
abbrev pub keys_of : List Witness → List Key
keys_of ws = map (λ w. w.key) ws

-- those that were added
abbrev pub added_in : List Witness → List Witness
added_in ws = filter (λ w. w.added) ws

-- the list, and its added members
abbrev pub backing_of : List Witness → Backing
backing_of ws = record { list = keys_of ws; added = keys_of (added_in ws) }
