use Rattle.std.proofs.Common.{Some}
use Rattle.controller_core.specs.ControllerCore.Plans.{sealed}
use Rattle.controller_core.proofs.ControllerCoreLemmas.Signing.{signed_where_ok}
use Rattle.controller_core.proofs.controller_core.made.made_behind.Goals as goal

pub returns-clause-signed : goal.returns-clause-signed
returns-clause-signed g c =
    signed_where_ok (g.S.Signer.gives c.args.signer.now) (Some c.args.state.now) (sealed c.args.plan.now.code c.args.event.now) c.args.plan.now.signers c.made.result c.made.ensures.made
