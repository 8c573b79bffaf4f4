use Rattle.std.proofs.Common.{◌∙◌, ap, subst}
use Rattle.controller_core.specs.ControllerCore.Answers.{IsAnswerBehind}
use Rattle.controller_core.specs.ControllerCore.Plans.{interaction, sealed}
use Rattle.controller_core.proofs.controller_core.interaction.interact.Goals as goal

pub returns : goal.returns
returns g c =
    let state = c.args.state.now in
    let is = c.interaction-event.ensures.event ∙ ap (interaction state) c.in_ok-copy.ensures in
    let said = c.made_behind-message.ensures in
    let answer = subst (λ event. IsAnswerBehind (g.S.Signer.gives c.args.signer.now) (g.S.Signer.signings c.args.signer.now) (g.S.Signer.signings c.made_behind-message.new.signer) state (sealed c.args.plan.now.code event) c.args.plan.now.signers c.made_behind-message.result) is
    (record { made = said.made; refused = said.refused; last = said.last; asked = said.asked; signed = said.signed }) in
    record { answer = answer; gives = said.gives; count = said.count }
