use Rattle.std.proofs.Common.{sym, subst}
use Rattle.validator_core.specs.ValidatorCore.Tables.{IsCore}
use Rattle.validator_core.proofs.ValidatorCoreLemmas.Cores.{nothing_core}
use Rattle.validator_core.proofs.validator_core.validator.Core.new.Goals as goal

pub invariant_of-result : goal.invariant_of-result
invariant_of-result c = subst (λ v. IsCore c.args.mode c.args.limits 0 v (record { messages = 0; body_bytes = 0; signatures = 0 })) (sym c.new.ensures) (nothing_core c.args.mode c.args.limits)
