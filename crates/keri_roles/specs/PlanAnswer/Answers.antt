-- What is answered to a plan's text.
use Rattle.std.specs.Prelude.{◌≡◌, ◌⊎◌, ℕ, List, ◌++◌, flat_map, Option, Some, None, Result, Ok, Err}
use Rattle.lists.specs.KeriSpecs.Causes.{Rose}
use Rattle.cesr_codes.specs.declared.key.Key.{Key}
use Rattle.cesr_codes.specs.declared.sig.Sig.{Sig}
use Rattle.keri_outside.specs.declared.signing.Signing.{Signing}
use Rattle.cesr_stream.specs.declared.message.Message.{Message}
use Rattle.cesr_stream.specs.Texts.{group_text}
use Rattle.report_lines.specs.declared.plan_refusal.PlanRefusal.TheVariants.{Line, Log, Body, Misfit, Unsigned}
use Rattle.controller_core.specs.declared.controller_core.plan_fault.PlanFault.{PlanFault}
use Rattle.controller_core.specs.declared.controller_core.plan_fault.PlanFault.TheVariants as fault
use Rattle.controller_core.specs.declared.controller_core.slot.Slot.{Slot}
use Rattle.controller_core.specs.ControllerCore.LastNumbers.{IsLastRefusal}
use Rattle.controller_core.specs.ControllerCore.Messages.{IsMessageOf, event_text}
use Rattle.controller_core.specs.ControllerCore.Refusals.{IsRefusal}
use Rattle.controller_core.specs.ControllerCore.Signing.{IsSignedByYes}
use Rattle.controller_core.specs.ControllerCore.Signings.{AsksFor, AsksFront, signings_of}
use Rattle.controller_core.specs.declared.plan_text.event_plan.EventPlan.{EventPlan}
use Rattle.controller_core.specs.PlanText.Plans.{IsPlanText}
use Rattle.controller_core.specs.PlanText.Reading.{IsRefusedAt}
use Rattle.keri_roles.specs.declared.plan_answer.answer.PlanAnswer.{PlanAnswer}
use Rattle.keri_roles.specs.declared.plan_answer.answer.PlanAnswer.TheVariants.{Message as MessageAnswer, Refused, SignerFault}
use Rattle.keri_roles.specs.PlanAnswer.Asked.{LogTold, Asked, asked, HasNumber, IsPastLast}

-- the body of a message, and its groups behind it
abbrev pub message_text : Message → List ℕ
message_text message = message.body ++ flat_map group_text message.groups

-- the answer to a message that was made, or to why there is none; none is owed where there was no memory
abbrev pub answer_to : Result Message PlanFault → Option PlanAnswer
answer_to (Ok message) = Some (MessageAnswer (message_text message))
answer_to (Err (fault.Body body)) = Some (Refused (Body body))
answer_to (Err (fault.Misfit misfit)) = Some (Refused (Misfit misfit))
answer_to (Err fault.Unsigned) = Some (Refused Unsigned)
answer_to (Err fault.SignerFault) = Some SignerFault
answer_to (Err fault.OutOfMemory) = None

-- a signer: the signatures that it gives, and what it had been asked before and has been asked now, where it shows that
pub record SignerAsked : Type 0 where
  pub gives : Key → List ℕ → Option Sig
  pub before : Option (List Signing)
  pub now : Option (List Signing)

abbrev pub signer_asked : (Key → List ℕ → Option Sig) → Option (List Signing) → Option (List Signing) → SignerAsked
signer_asked gives before now = record { gives = gives; before = before; now = now }

-- the signer was asked nothing
abbrev pub IsUnasked : SignerAsked → Type 0
IsUnasked signer = signer.now ≡ signer.before

-- The fault is the first that is so of the event. Behind a head of the greatest number, the number is too large, unless one
-- of the faults that come before that is so. No more was signed than the message would have.
pub record IsRefusedBy (signer : SignerAsked) (is : Asked) (slots : List Slot) (why : PlanFault) : Type 0 where
  pub refused : HasNumber is.state → IsRefusal is.state is.event slots why
  pub last : IsPastLast is.state → IsLastRefusal (event_text is.event) why
  pub asked : AsksFor {T = Message} signer.before signer.now (signings_of is.state is.event slots) (Err why)

-- the message of the event, whose number isn't past the greatest, with a signature in each slot, and nothing else was
-- signed; once these have yes verdicts, it is signed
pub record IsMadeOf (signer : SignerAsked) (is : Asked) (slots : List Slot) (text : List ℕ) : Type 0 where
  pub message : Message
  pub made : IsMessageOf signer.gives is.state is.event slots message
  pub asked : AsksFor signer.before signer.now (signings_of is.state is.event slots) (Ok message)
  pub signed : IsSignedByYes is.state is.event message
  pub numbered : ¬ IsPastLast is.state
  pub spelled : text ≡ message_text message

-- The answer to an event that is asked for.
abbrev pub IsEventAnswer : SignerAsked → Asked → List Slot → PlanAnswer → Type 0
IsEventAnswer signer is slots (MessageAnswer text) = IsMadeOf signer is slots text
IsEventAnswer signer is slots (Refused (Body body)) = IsRefusedBy signer is slots (fault.Body body)
IsEventAnswer signer is slots (Refused (Misfit misfit)) = IsRefusedBy signer is slots (fault.Misfit misfit)
IsEventAnswer signer is slots (Refused Unsigned) = IsRefusedBy signer is slots fault.Unsigned
IsEventAnswer signer is slots SignerFault = IsRefusedBy signer is slots fault.SignerFault
IsEventAnswer signer is slots (Refused Log) = ⊥
IsEventAnswer signer is slots (Refused (Line n)) = ⊥

-- The plan asks for an event, and this is the answer to that; or the log is refused, or has no state that the event could
-- follow, and nothing is signed.
abbrev pub IsAnswerOf : SignerAsked → Option Asked → List Slot → PlanAnswer → Type 0
IsAnswerOf signer None slots answer = (answer ≡ Refused Log) × IsUnasked signer
IsAnswerOf signer (Some is) slots answer = IsEventAnswer signer is slots answer

-- the answer to a plan
abbrev pub IsPlanAnswer : SignerAsked → Option LogTold → EventPlan → PlanAnswer → Type 0
IsPlanAnswer signer log plan answer = IsAnswerOf signer (asked log plan) plan.plan.signers answer

-- the text spells a plan, and this is the answer to that
pub record AnswersPlan (signer : SignerAsked) (log : Option LogTold) (text : List ℕ) (answer : PlanAnswer) : Type 0 where
  pub plan : EventPlan
  pub spelled : IsPlanText text plan
  pub is : IsPlanAnswer signer log plan answer

-- A line that isn't of the form is named before all else, and the log before what is wrong with the event.
abbrev pub IsAnswer : SignerAsked → Option LogTold → List ℕ → PlanAnswer → Type 0
IsAnswer signer log text (Refused (Line n)) = IsRefusedAt text n × IsUnasked signer
IsAnswer signer log text (Refused Log) = AnswersPlan signer log text (Refused Log)
IsAnswer signer log text (Refused (Body body)) = AnswersPlan signer log text (Refused (Body body))
IsAnswer signer log text (Refused (Misfit misfit)) = AnswersPlan signer log text (Refused (Misfit misfit))
IsAnswer signer log text (Refused Unsigned) = AnswersPlan signer log text (Refused Unsigned)
IsAnswer signer log text (MessageAnswer bytes) = AnswersPlan signer log text (MessageAnswer bytes)
IsAnswer signer log text SignerFault = AnswersPlan signer log text SignerFault

-- of the signatures that the message of the event would have, a front was asked for at most
abbrev pub AsksFew : SignerAsked → Option Asked → List Slot → Type 0
AsksFew signer None slots = IsUnasked signer
AsksFew signer (Some is) slots = AsksFront signer.before signer.now (signings_of is.state is.event slots)

-- the text spells a plan, and no more was signed than its message would have
pub record SignsFew (signer : SignerAsked) (log : Option LogTold) (text : List ℕ) : Type 0 where
  pub plan : EventPlan
  pub spelled : IsPlanText text plan
  pub few : AsksFew signer (asked log plan) plan.plan.signers

-- nothing was signed, or no more than the message that the text's plan asks for would have
abbrev pub SignsNoMore : SignerAsked → Option LogTold → List ℕ → Type 0
SignsNoMore signer log text = IsUnasked signer ⊎ SignsFew signer log text

-- the signer's count of faults rose where that is the answer, and else stays, but for want of memory
abbrev pub CountsFaults : ℕ → ℕ → PlanAnswer → Type 0
CountsFaults before now (MessageAnswer bytes) = now ≡ before
CountsFaults before now (Refused why) = now ≡ before
CountsFaults before now SignerFault = Rose before now
