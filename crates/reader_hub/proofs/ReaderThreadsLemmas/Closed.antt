-- The core that is given back is within its limits.
use Rattle.std.proofs.Common.{◌≡◌, ◌≤◌, List, [], Some, ◌∙◌, sym, subst, arith}
use Rattle.keri_outside.specs.declared.limits.Limits.{Limits}
use Rattle.journal.specs.declared.journal.body.Body.{Body}
use Rattle.journal.specs.Journal.Replies.{IsWithin}
use Rattle.validator_core.specs.ValidatorCore.View.{CoreView, IsSoundCore, bytes_of, told_of}
use Rattle.validator_core.proofs.ValidatorCoreLemmas.OpenQuestions.{no_bodies}
use Rattle.reader_hub.specs.ReaderHub.Hubs.{head_of}
use Rattle.reader_hub.specs.declared.reader_hub.core_head.CoreHead.{CoreHead}

pub within_by : (core : CoreView) (limits : Limits) → core.base ≡ 0 → core.limits ≡ limits → IsSoundCore core → IsWithin limits [] (told_of core)
within_by core limits base same stands =
    subst (λ (l : Limits). IsWithin l [] (told_of core)) same
    (subst (λ (b : List Body). bytes_of b ≤ core.limits.body_bytes → IsWithin core.limits b (told_of core)) (no_bodies core base) stands.within (omega arith))

-- the head of the core is that with which the passes began
pub same_head : (core : CoreView) (head : CoreHead) {o : _} → o ≡ Some head → o ≡ Some (head_of core) → head_of core ≡ head
same_head core head first last = let both : Some (head_of core) ≡ Some head = sym last ∙ first in cc
