use Rattle.std.proofs.Common.{◌≡◌, ◌≢◌, ◌∙◌, ap, sym, subst}
use Rattle.std.specs.Prelude.{IfOk, IfErr, OnOk}
use Rattle.std.specs.Option.{option_copied}
use Rattle.event_body.specs.EventWriting.Faults.{IsFaultOf}
use Rattle.controller_core.specs.declared.controller_core.plan_fault.PlanFault.TheVariants.{SignerFault}
use Rattle.controller_core.specs.ControllerCore.Messages.{IsSignable, IsWhole, event_text}
use Rattle.controller_core.specs.ControllerCore.Plans.{sealed}
use Rattle.controller_core.specs.ControllerCore.Refusals.{IsRefusal}
use Rattle.controller_core.proofs.controller_core.planned_body.planned_text.Goals as goal

pub signable_text-requires : goal.signable_text-requires
signable_text-requires c =
    let is = sym c.in-Ok.ensures.event in
    record { whole = subst IsWhole is c.in-Ok.ensures.whole; text = c.in-Ok.ensures.text ∙ ap event_text is }

pub returns-in-Ok : goal.returns-in-Ok
returns-in-Ok c =
    let is = c.in-Ok.ensures.event in
    let state = option_copied c.args.state in
    let slots = c.args.plan.now.signers in
    let answer = c.signable_text.result in
    record {
      text = subst (λ event. IfOk answer (λ text. text.items ≡ event_text event)) is c.signable_text.ensures.text;
      signable = subst (λ event. OnOk answer (IsSignable state event slots)) is c.signable_text.ensures.signable;
      refused = subst (λ event. IfErr answer (λ fault. (fault ≢ SignerFault) × IsRefusal state event slots fault)) is c.signable_text.ensures.refused;
    }

pub returns-in-Err-Fault : goal.returns-in-Err-Fault
unfolding event_text
returns-in-Err-Fault c =
    let first = subst (IsFaultOf (sealed c.args.plan.now.code c.args.event.now)) c.in-Err-Fault.field-0-is c.in-Err-Fault.ensures.fault in
    record { text = tt; signable = tt; refused = (λ same. cc same, first) }

pub returns-in-Err-OutOfMemory : goal.returns-in-Err-OutOfMemory
returns-in-Err-OutOfMemory c = record { text = tt; signable = tt; refused = (λ same. cc same, tt) }
