use Rattle.std.proofs.Common.{Err, sym, subst}
use Rattle.event_body.specs.EventBody.Judging.{Judges}
use Rattle.controller_core.specs.ControllerCore.LastNumbers.{IsLastFault}
use Rattle.controller_core.proofs.ControllerCoreLemmas.LastNumbers.{few_spelled, last_of}
use Rattle.controller_core.proofs.controller_core.last_number.text_fault.Goals as goal

pub returns-in-Err-Fault : goal.returns-in-Err-Fault
returns-in-Err-Fault c =
    let text = c.args.text.now in
    let first = subst (λ fault. Judges text (Err fault)) c.in-Err-Fault.field-0-is c.in-Err-Fault.ensures.judged in
    subst (IsLastFault text) (sym c.with_number.ensures) (last_of text c.in-Err-Fault.fault c.if-text-ge-TOO_MANY.false first)

pub returns-in-Ok : goal.returns-in-Ok
returns-in-Ok c = (c.if-text-ge-TOO_MANY.false, few_spelled c.in-Ok.event c.args.text.now c.in-Ok.ensures.judged.1)
