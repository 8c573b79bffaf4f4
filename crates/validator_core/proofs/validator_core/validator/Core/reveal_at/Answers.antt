use Rattle.std.proofs.Common.{◌≡◌, ℕ, ◌∙◌, ap, subst}
use Rattle.std.specs.Prelude.{Some, slice_get}
use Rattle.journal.specs.EventRules.Additions.{is_number}
use Rattle.journal.specs.declared.journal.body.Body.{Body}
use Rattle.validator_core.specs.ValidatorCore.Signatures.{opens_under}
use Rattle.validator_core.specs.ValidatorCore.View.{accepted_by}
use Rattle.validator_core.proofs.validator_core.validator.Core.reveal_at.Goals as goal

pub returns : goal.returns
returns c =
    subst (λ core. (b : Body) → slice_get (accepted_by core) c.args.place ≡ Some b → (n : ℕ) → is_number c.reveal_in.result n ≡ opens_under (accepted_by core) b n c.args.sig.now) c.self.view_is
    (λ b at n. c.reveal_in.ensures b (ap (λ log. slice_get log c.args.place) c.self.invariant.log_is ∙ at) n ∙ ap (λ log. opens_under log b n c.args.sig.now) c.self.invariant.log_is)
