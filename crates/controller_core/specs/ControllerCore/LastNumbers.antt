-- Plans behind a head of the greatest number, 2^64 - 1. The next number has 17 digits, and no event can have it, so what is
-- said is said of the event of the greatest number: its text has one digit fewer.
use Rattle.std.specs.Prelude.{◌<◌, ◌≤◌, ℕ, List, length, Result, Ok, Err}
use Rattle.cesr_stream.specs.declared.message.Message.{Message}
use Rattle.event_body.specs.EventBody.Judging.{HasValues, IsFirstFault}
use Rattle.event_body.specs.EventBody.Rules.{AreFew}
use Rattle.event_body.specs.declared.event_body.body_fault.BodyFault.{BodyFault}
use Rattle.event_body.specs.declared.event_body.body_fault.BodyFault.TheVariants.{Field, SizeField, Said, Prefix, Threshold, Witnesses, TooMany, NumberTooLarge, TooLarge}
use Rattle.controller_core.specs.declared.controller_core.plan_fault.PlanFault.{PlanFault}
use Rattle.controller_core.specs.declared.controller_core.plan_fault.PlanFault.TheVariants.{Body, Misfit, Unsigned, SignerFault, OutOfMemory}

-- The text is too long with one digit more; or it has one of the faults that are tested before a number's; or else the
-- number is too large, whatever other rule fails.
abbrev pub IsLastFault : List ℕ → BodyFault → Type 0
IsLastFault text TooLarge = 65535 ≤ length text
IsLastFault text SizeField = (length text < 65535) × IsFirstFault text SizeField
IsLastFault text (Field n) = (length text < 65535) × IsFirstFault text (Field n)
IsLastFault text TooMany = (length text < 65535) × IsFirstFault text TooMany
IsLastFault text NumberTooLarge = (length text < 65535) × HasValues AreFew text
IsLastFault text Threshold = ⊥
IsLastFault text Witnesses = ⊥
IsLastFault text Prefix = ⊥
IsLastFault text Said = ⊥

-- no message is made
abbrev pub IsLastRefusal : List ℕ → PlanFault → Type 0
IsLastRefusal text (Body fault) = IsLastFault text fault
IsLastRefusal text OutOfMemory = Unit {0}
IsLastRefusal text (Misfit fault) = ⊥
IsLastRefusal text Unsigned = ⊥
IsLastRefusal text SignerFault = ⊥

abbrev pub IsLastAnswer : List ℕ → Result Message PlanFault → Type 0
IsLastAnswer text (Ok message) = ⊥
IsLastAnswer text (Err fault) = IsLastRefusal text fault

-- the first fault of a text that is short enough once its number is too large, by the first one that it has before
abbrev pub with_number : BodyFault → BodyFault
with_number SizeField = SizeField
with_number (Field n) = Field n
with_number TooMany = TooMany
with_number TooLarge = NumberTooLarge
with_number NumberTooLarge = NumberTooLarge
with_number Threshold = NumberTooLarge
with_number Witnesses = NumberTooLarge
with_number Prefix = NumberTooLarge
with_number Said = NumberTooLarge
