use Rattle.std.proofs.Common.{◌≡◌, ◌∙◌, ap, subst}
use Rattle.std.specs.Prelude.{Some, slice_get}
use Rattle.journal.specs.declared.journal.body.Body.{Body}
use Rattle.validator_core.specs.ValidatorCore.Signatures.{is_witness_under}
use Rattle.validator_core.specs.ValidatorCore.View.{accepted_by}
use Rattle.validator_core.proofs.validator_core.validator.Core.is_witness_at.Goals as goal

pub returns : goal.returns
returns c =
    subst (λ core. (b : Body) → slice_get (accepted_by core) c.args.place ≡ Some b → c.is_witness_in.result ≡ is_witness_under (accepted_by core) b c.args.key.now) c.self.view_is
    (λ b at. c.is_witness_in.ensures b (ap (λ log. slice_get log c.args.place) c.self.invariant.log_is ∙ at) ∙ ap (λ log. is_witness_under log b c.args.key.now) c.self.invariant.log_is)
