-- Made messages once verifiers have said yes of their signatures.
use Rattle.std.specs.Prelude.{◌≡◌, true, List, Option}
use Rattle.std.specs.List.{AllByRecursion, Contains}
use Rattle.cesr_stream.specs.declared.message.Message.{Message}
use Rattle.event_body.specs.declared.event_body.event.Event.{Event}
use Rattle.key_state.specs.Exposure.{own_rules}
use Rattle.key_state.specs.States.{State}
use Rattle.journal.specs.declared.journal.body.Body.{Body}
use Rattle.journal.specs.declared.journal.claim.Claim.{Claim}
use Rattle.journal.specs.Journal.History.{Told, claims_on, triple_of}
use Rattle.journal.specs.Journal.Readiness.{signed, yes_to}
use Rattle.journal.specs.Journal.Replies.{claims_of}
use Rattle.controller_core.specs.ControllerCore.Messages.{event_text}

-- the body of an event
abbrev pub body_of : Event → Body
body_of e = record { bytes = event_text e; event = e }

-- the claim stands on the body, and a verdict says yes of it by the key at its index
pub record IsAnswered (told : List Told) (s : Option State) (b : Body) (claim : Claim) : Type 0 where
  pub stands : Contains (claims_on told b) claim
  pub yes : yes_to told (triple_of (own_rules s b.event) b claim) ≡ true

-- whatever a core was told: where each signature of the message is answered so, the body is signed under the state
abbrev pub IsSignedByYes : Option State → Event → Message → Type 0
IsSignedByYes s e message = (told : List Told) → AllByRecursion (IsAnswered told s (body_of e)) (claims_of message) → signed told s (body_of e) ≡ true
