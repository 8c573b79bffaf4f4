-- The claims on a body whose keys are found, in a log with one more event.
use Rattle.std.proofs.Common.{◌≡◌, false, List, [], ◌∷◌, ◌++◌, Some, None, refl}
use Rattle.journal.specs.declared.journal.body.Body.{Body}
use Rattle.journal.specs.Journal.History.{Told}
use Rattle.journal.specs.Journal.Logs.{precedes, predecessor, stands}
use Rattle.journal.specs.Journal.Questions.{state_before}
use Rattle.claim_table.proofs.CoreLawsLemmas.Predecessors.{state_before-kept, state_before-none}
use Rattle.claim_table.specs.CoreLaws.ClaimRows.{found_on}

stands-same : (log more : List Body) (b : Body) → state_before more b ≡ state_before log b → stands more b ≡ stands log b
unfolding stands
stands-same log more b e = rw e refl

-- behind one state they are the same
pub claimed-same : (told : List Told) (log more : List Body) (b : Body) → state_before more b ≡ state_before log b → found_on told more b ≡ found_on told log b
unfolding found_on
claimed-same told log more b e = let same = stands-same log more b e in rw (same, e) refl

-- and so once the body's predecessor is there, and where the new event isn't it
pub claimed-kept : (told : List Told) (log : List Body) (c : Body) (b x : Body) → predecessor log b ≡ Some x → found_on told (log ++ c ∷ []) b ≡ found_on told log b
claimed-kept told log c b x e = claimed-same told log (log ++ c ∷ []) b (state_before-kept log c b x e)

pub claimed-none : (told : List Told) (log : List Body) (c : Body) (b : Body) → predecessor log b ≡ None → precedes b c ≡ false → found_on told (log ++ c ∷ []) b ≡ found_on told log b
claimed-none told log c b e other = claimed-same told log (log ++ c ∷ []) b (state_before-none log c b e other)
