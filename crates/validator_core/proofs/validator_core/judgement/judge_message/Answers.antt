use Rattle.std.proofs.Common.{◌≡◌, ℕ, List, true, false, Ok, Err, Some, refl, sym, ◌∙◌}
use Rattle.cesr_stream.specs.declared.message.Message.{Message}
use Rattle.event_body.specs.EventBody.Judging.{Judges}
use Rattle.event_body.specs.declared.event_body.body_fault.BodyFault.{BodyFault}
use Rattle.event_body.specs.declared.event_body.body_fault.ReadBody.{ReadBody}
use Rattle.event_body.specs.declared.event_body.body_fault.ReadBody.TheVariants.{Fault}
use Rattle.journal.specs.Journal.Feeds.{GivesBody}
use Rattle.journal.specs.declared.journal.reply.Reason.TheVariants.{TooManySigs, Body as BodyReason}
use Rattle.journal.specs.Journal.Replies.{refusal}
use Rattle.validator_core.proofs.ValidatorCoreLemmas.Groups.{refusal_is}
use Rattle.validator_core.proofs.validator_core.judgement.judge_message.Goals as goal

-- a fault that reading met
fault_given : (bytes given : List ℕ) (read : ReadBody) (fault : BodyFault) → bytes ≡ given → read ≡ Fault fault
    → Judges bytes (Err read) → GivesBody given (Err fault)
fault_given bytes given read fault e is judged = let k = rw is at judged in rw (← e) k

with_excess : (m : Message) (fault : BodyFault) → m.excess ≡ true → refusal m (Err fault) ≡ Some TooManySigs
unfolding refusal
with_excess m fault h = rw h refl

without_excess : (m : Message) (fault : BodyFault) → m.excess ≡ false → refusal m (Err fault) ≡ Some (BodyReason fault)
unfolding refusal
without_excess m fault h = rw h refl

pub returns-in-None : goal.returns-in-None
returns-in-None c = (rw (← c.as_slice.ensures) c.in-Ok.ensures.judged, sym (refusal_is c.args.message.now c.in-Ok.event) ∙ sym c.in-None.ensures)

pub returns-in-Some : goal.returns-in-Some
returns-in-Some c = (Ok c.in-Ok.event, rw (← c.as_slice.ensures) c.in-Ok.ensures.judged, sym (refusal_is c.args.message.now c.in-Ok.event) ∙ sym c.in-Some.ensures)

pub returns-in-Err-Fault : goal.returns-in-Err-Fault
returns-in-Err-Fault c = (
  Err c.in-Err-Fault.field-0-0,
  fault_given c.as_slice.result.now c.args.message.now.body c.in-Err-Fault.field-0 c.in-Err-Fault.field-0-0
      c.as_slice.ensures c.in-Err-Fault.field-0-is c.in-Err-Fault.ensures.judged,
  with_excess c.args.message.now c.in-Err-Fault.field-0-0 c.if-message.true,
)

pub returns-in-Err-Fault-2 : goal.returns-in-Err-Fault-2
returns-in-Err-Fault-2 c = (
  Err c.in-Err-Fault.field-0-0,
  fault_given c.as_slice.result.now c.args.message.now.body c.in-Err-Fault.field-0 c.in-Err-Fault.field-0-0
      c.as_slice.ensures c.in-Err-Fault.field-0-is c.in-Err-Fault.ensures.judged,
  without_excess c.args.message.now c.in-Err-Fault.field-0-0 c.if-message.false,
)
