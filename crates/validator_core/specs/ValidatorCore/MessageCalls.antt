-- What callers see of a validator's core, and what becomes of messages and verdicts.
use Rattle.std.specs.Prelude.{◌≡◌, ℕ, Result, Ok}
use Rattle.cesr_stream.specs.declared.message.Message.{Message}
use Rattle.event_body.specs.declared.event_body.event.Event.{Event}
use Rattle.event_body.specs.declared.event_body.body_fault.BodyFault.{BodyFault}
use Rattle.validator_core.specs.Tables.View.{body_of}
use Rattle.validator_core.specs.ValidatorCore.Looks.{LooksByReply}
use Rattle.validator_core.specs.ValidatorCore.View.{CoreView, Follows, base_of, told_of}
use Rattle.journal.specs.declared.journal.reply.Reply.{Reply}
use Rattle.journal.specs.declared.journal.reply.Reply.TheVariants.{Taken, Again, Refused, LimitReached}
use Rattle.journal.specs.Journal.CoreCalls.{Takes}
use Rattle.journal.specs.Journal.Feeds.{GivesBody}

-- a message got this reply
pub record TakesMessage (old : CoreView) (reader : ℕ) (m : Message) (reply : Reply) (new : CoreView) : Type 0 where
  pub gives : Result Event BodyFault
  pub judged : GivesBody m.body gives
  pub takes : Takes old.limits (base_of old) (told_of old) reader m gives reply (told_of new)
  pub follows : Follows old new

-- the looks at waiting events that a reply took, by the event that the message's body spells
abbrev pub LooksByEvent : CoreView → Message → Reply → CoreView → ℕ → ℕ → Type 0
LooksByEvent old m reply new steps steps_then = (event : Event) × GivesBody m.body (Ok event) × LooksByReply old (body_of m.body event) reply new steps steps_then

-- and for a message that is refused none is taken
abbrev pub LooksByMessage : CoreView → Message → Reply → CoreView → ℕ → ℕ → Type 0
LooksByMessage old m (Refused reason) new steps steps_then = steps_then ≡ steps
LooksByMessage old m Taken new steps steps_then = LooksByEvent old m Taken new steps steps_then
LooksByMessage old m Again new steps steps_then = LooksByEvent old m Again new steps steps_then
LooksByMessage old m LimitReached new steps steps_then = LooksByEvent old m LimitReached new steps steps_then
