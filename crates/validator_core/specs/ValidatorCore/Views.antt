-- Conflicts, and the places of their bodies.
use Rattle.std.specs.Prelude.{◌≡◌, ℕ, List, slice_get, Some}
use Rattle.event_body.specs.declared.event_body.event.Event.{Event}
use Rattle.event_body.specs.EventBody.Events.{prefix_of, sn_of}
use Rattle.journal.specs.declared.journal.conflict.Conflict.{Conflict}

-- the conflict has the place of its first body
abbrev pub IsPlaced : List Event → Conflict → Type 0
IsPlaced events c = (n : ℕ) (e : Event) → slice_get c.bodies 0 ≡ Some n → slice_get events n ≡ Some e → (prefix_of e ≡ c.prefix) × (sn_of e ≡ c.sn)
