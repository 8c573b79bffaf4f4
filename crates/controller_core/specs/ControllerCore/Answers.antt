-- What is answered to a plan behind a state.
use Rattle.std.specs.Prelude.{◌≡◌, ◌+◌, ◌-◌, ◌<◌, ◌^◌, ℕ, List, Option, Some, Result, IfOk, IfErr}
use Rattle.cesr_codes.specs.declared.key.Key.{Key}
use Rattle.cesr_codes.specs.declared.sig.Sig.{Sig}
use Rattle.cesr_stream.specs.declared.message.Message.{Message}
use Rattle.event_body.specs.declared.event_body.event.Event.{Event}
use Rattle.keri_outside.specs.declared.signing.Signing.{Signing}
use Rattle.key_state.specs.Heads.{head_sn}
use Rattle.key_state.specs.States.{State}
use Rattle.controller_core.specs.declared.controller_core.plan_fault.PlanFault.{PlanFault}
use Rattle.controller_core.specs.declared.controller_core.slot.Slot.{Slot}
use Rattle.controller_core.specs.ControllerCore.LastNumbers.{IsLastAnswer}
use Rattle.controller_core.specs.ControllerCore.Messages.{IsMessageOf, event_text}
use Rattle.controller_core.specs.ControllerCore.Refusals.{IsRefusal}
use Rattle.controller_core.specs.ControllerCore.Signing.{IsSignedByYes}
use Rattle.controller_core.specs.ControllerCore.Signings.{AsksFor, signings_of}

-- The answer to a plan of this event and these slots behind a state, by a signer that gives these signatures, and what it
-- was asked before and after.
pub record IsAnswerBehind (gives : Key → List ℕ → Option Sig) (old new : Option (List Signing)) (s : State) (e : Event) (slots : List Slot) (answer : Result Message PlanFault) : Type 0 where
  -- the event is one by all rules and follows the state, and the message has its text and a signature in each slot
  pub made : IfOk answer (IsMessageOf gives (Some s) e slots)
  -- a refusal is the first that is so; behind the greatest number there is no message
  pub refused : head_sn s + 1 < 2 ^ 64 → IfErr answer (IsRefusal (Some s) e slots)
  pub last : head_sn s ≡ 2 ^ 64 - 1 → IsLastAnswer (event_text e) answer
  -- the signer was asked for these signatures and for nothing else, and for none where the plan is refused
  pub asked : AsksFor old new (signings_of (Some s) e slots) answer
  -- once verifiers have said yes of the signatures, the body is signed
  pub signed : IfOk answer (IsSignedByYes (Some s) e)
