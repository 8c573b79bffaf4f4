-- The numbers of events in their logs.
use Rattle.std.specs.Prelude.{ℕ, List, Option, Some, None, slice_get}
use Rattle.event_body.specs.EventBody.Events.{sn_of}
use Rattle.event_body.specs.declared.event_body.event.Event.{Event}

-- the number in its log, and 0 for none
abbrev pub sn_or : Option Event → ℕ
sn_or None = 0
sn_or (Some e) = sn_of e

-- that of the event of a number
abbrev pub sn_at : List Event → ℕ → ℕ
sn_at events n = sn_or (slice_get events n)
