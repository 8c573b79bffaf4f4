-- Small events of one identifier, for worked examples. No body spells them.
use Rattle.std.specs.Prelude.{ℕ, List, [], ◌∷◌, None}
use Rattle.cesr_codes.specs.declared.digest.Digest.{Digest}
use Rattle.cesr_codes.specs.declared.digest.DigestCode.TheVariants.{Blake3}
use Rattle.cesr_codes.specs.declared.key.Key.{Key}
use Rattle.cesr_codes.specs.declared.key.KeyCode.TheVariants.{Fixed, Rotating}
use Rattle.cesr_codes.specs.declared.prefix.Prefix.{Prefix}
use Rattle.cesr_codes.specs.declared.prefix.Prefix.TheVariants.{Said}
use Rattle.event_body.specs.declared.event_body.event.Event.{Event}
use Rattle.event_body.specs.declared.event_body.event.Event.TheVariants.{Ixn, Rot}
use Rattle.event_body.specs.declared.event_body.inception.Inception.{Inception}
use Rattle.sith.specs.declared.threshold.Threshold.TheVariants.{Count}

-- keys of controllers and of witnesses
abbrev pub key : ℕ → Key
key n = record { code = Rotating; raw = n ∷ [] }

abbrev pub witness : ℕ → Key
witness n = record { code = Fixed; raw = n ∷ [] }

abbrev pub digest : ℕ → Digest
digest n = record { code = Blake3; raw = n ∷ [] }

abbrev pub identifier : Prefix
identifier = Said (digest 0)

-- an inception with these witnesses, and how many of them must agree
abbrev pub begin : List Key → ℕ → Inception
begin list toad = record {
  said = digest 0;
  prefix = identifier;
  kt = Count 1;
  keys = key 1 ∷ [];
  nt = Count 1;
  next = digest 50 ∷ [];
  toad = toad;
  list = list;
  traits = [];
  anchors = [];
  delegator = None;
}

-- an interaction, and a rotation, of a number, a digest and the digest before it
abbrev pub ixn : ℕ → ℕ → ℕ → Event
ixn n said prior = Ixn (record { said = digest said; prefix = identifier; sn = n; prior = digest prior; anchors = [] })

abbrev pub rot : ℕ → ℕ → ℕ → Event
rot n said prior = Rot (record { said = digest said; prefix = identifier; sn = n; prior = digest prior; kt = Count 1; keys = key 2 ∷ []; nt = Count 1; next = digest 51 ∷ []; toad = 0; cuts = []; adds = []; anchors = [] })
