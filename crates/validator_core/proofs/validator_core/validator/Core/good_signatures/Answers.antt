use Rattle.std.proofs.Common.{◌≡◌, ◌∙◌, ap, subst}
use Rattle.std.specs.Prelude.{IfOk, Some, slice_get}
use Rattle.validator_core.specs.Acceptance.Standing.{told_of}
use Rattle.journal.specs.declared.journal.body.Body.{Body}
use Rattle.validator_core.proofs.TableChangesLemmas.Events.{if_ok_then}
use Rattle.validator_core.specs.ValidatorCore.Signatures.{good_in, good_on}
use Rattle.validator_core.proofs.validator_core.validator.Core.good_signatures.Goals as goal

pub returns : goal.returns
returns c =
    let i = c.self.inside in
    subst (λ core. IfOk c.signatures_on.result (λ sigs. (b : Body) → slice_get core.held c.args.number ≡ Some b → sigs.items ≡ good_on core b)) c.self.view_is
    (if_ok_then c.signatures_on.result c.signatures_on.ensures (λ sigs is b at. is b at ∙ ap (λ log. good_in (told_of i.tables) log b) c.self.invariant.log_is))
