use Rattle.std.proofs.Common.{◌≡◌, ◌∙◌, ap, subst}
use Rattle.std.specs.Prelude.{IfOk, Some, slice_get}
use Rattle.validator_core.specs.Acceptance.Standing.{told_of}
use Rattle.journal.specs.declared.journal.body.Body.{Body}
use Rattle.validator_core.proofs.TableChangesLemmas.Events.{if_ok_then}
use Rattle.validator_core.specs.ValidatorCore.Signatures.{good_under}
use Rattle.validator_core.specs.ValidatorCore.View.{accepted_by, told_of as core_told}
use Rattle.validator_core.proofs.validator_core.validator.Core.signatures_at.Goals as goal

pub returns : goal.returns
returns c =
    let i = c.self.inside in
    subst (λ core. IfOk c.signatures_under.result (λ sigs. (b : Body) → slice_get (accepted_by core) c.args.place ≡ Some b → sigs.items ≡ good_under (core_told core) (accepted_by core) b)) c.self.view_is
    (if_ok_then c.signatures_under.result c.signatures_under.ensures (λ sigs is b at. is b (ap (λ log. slice_get log c.args.place) c.self.invariant.log_is ∙ at) ∙ ap (λ log. good_under (told_of i.tables) log b) c.self.invariant.log_is))
