use Rattle.std.proofs.Common.{None, subst}
use Rattle.std.specs.Prelude.{IfOk, IfErr}
use Rattle.controller_core.specs.ControllerCore.Messages.{IsMessageOf}
use Rattle.controller_core.specs.ControllerCore.Plans.{sealed, sealed_inception}
use Rattle.controller_core.specs.ControllerCore.Refusals.{IsRefusal}
use Rattle.controller_core.specs.ControllerCore.Signings.{AsksFor, signings_of}
use Rattle.controller_core.proofs.ControllerCoreLemmas.Signing.{signed_where_ok}
use Rattle.controller_core.proofs.controller_core.inception.incept.Goals as goal

pub returns : goal.returns
returns g c =
    let plan = c.args.plan.now in
    let gives = g.S.Signer.gives c.args.signer.now in
    let said = c.made-message.ensures in
    let answer = c.made-message.result in
    let is = c.in_ok-event.ensures.event in
    let made = subst (λ event. IfOk answer (IsMessageOf gives None (sealed plan.code event) plan.signers)) is said.made in
    record {
      made = made;
      refused = subst (λ event. IfErr answer (IsRefusal None (sealed plan.code event) plan.signers)) is said.refused;
      gives = said.gives;
      asked = subst (λ event. AsksFor (g.S.Signer.signings c.args.signer.now) (g.S.Signer.signings c.made-message.new.signer) (signings_of None (sealed plan.code event) plan.signers) answer) is said.asked;
      count = said.count;
      signed = signed_where_ok gives None (sealed_inception plan) plan.signers answer made;
    }
