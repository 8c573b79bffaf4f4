-- Which witnesses of a list back an event (KERI, receipts): each of them once, however often it signed.
use Rattle.std.specs.Prelude.{◌||◌, List, [], ◌∷◌, filter, map, flat_map, bytes_eq}
use Rattle.cesr_codes.specs.declared.key.Key.{Key}
use Rattle.key_state.specs.Same.{same_key, has_key}
use Rattle.journal.specs.Journal.History.{Told, yes_in}
use Rattle.journal.specs.declared.journal.body.Body.{Body}

-- the witnesses of a list, and those of them that were added, in the list's order
pub record Backing : Type 0 where
  pub list : List Key
  pub added : List Key

-- no witness was added
abbrev pub none_added : List Key → Backing
none_added list = record { list = list; added = [] }

-- the key is added too, where it stands in the list
abbrev pub with_added : Key → Backing → Backing
with_added key b = record { list = b.list; added = filter (λ w. has_key b.added w || same_key w key) b.list }

-- keys are added one after another
abbrev pub with_each : List Key → Backing → Backing
with_each [] b = b
with_each (key ∷ keys) b = with_each keys (with_added key b)

-- the keys of the signatures on a body to which a verdict says yes, in the order of the verdicts
abbrev pub keys_on : List Told → Body → List Key
keys_on told b = map (λ t. t.key) (filter (λ t. bytes_eq t.body b.bytes) (flat_map yes_in told))
