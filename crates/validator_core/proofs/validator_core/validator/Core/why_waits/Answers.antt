use Rattle.std.proofs.Common.{◌≡◌, subst}
use Rattle.validator_core.specs.ValidatorCore.View.{waits_for}
use Rattle.validator_core.proofs.ValidatorCoreLemmas.Waits.{waits_is}
use Rattle.validator_core.proofs.validator_core.validator.Core.why_waits.Goals as goal

pub returns : goal.returns
returns c =
    let i = c.self.inside in
    subst (λ core. c.why_waits.result ≡ waits_for core c.args.body) c.self.view_is
    (waits_is i.mode i.limits i.base i.tables i.tally c.self.invariant c.args.body c.why_waits.result c.why_waits.ensures.held c.why_waits.ensures.none)
