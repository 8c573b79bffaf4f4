-- Why an event isn't written.
use Rattle.std.specs.Prelude.{◌≡◌, ◌<◌, ℕ, List, length}
use Rattle.event_body.specs.declared.event_body.event.Event.{Event}
use Rattle.event_body.specs.declared.event_body.body_fault.BodyFault.TheVariants.{TooLarge}
use Rattle.event_body.specs.declared.event_body.body_fault.ReadBody.{ReadBody}
use Rattle.event_body.specs.declared.event_body.body_fault.ReadBody.TheVariants.{Fault, OutOfMemory}
use Rattle.event_body.specs.EventBody.Judging.{IsFirstFault}
use Rattle.event_body.specs.EventBody.Spelling.{text_of}

-- it is the first rule that the event's text fails; or there was no memory
abbrev pub IsFaultOf : Event → ReadBody → Type 0
IsFaultOf event (Fault fault) = IsFirstFault (text_of event) fault
IsFaultOf event OutOfMemory = Unit {0}

-- a text is refused for its length alone; or there was no memory
abbrev pub IsLengthFault : List ℕ → ReadBody → Type 0
IsLengthFault text (Fault fault) = (fault ≡ TooLarge) × (65535 < length text)
IsLengthFault text OutOfMemory = Unit {0}
