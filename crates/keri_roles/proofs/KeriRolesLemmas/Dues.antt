-- What is owed to an answer.
use Rattle.std.proofs.Common.{◌≡◌, ◌⊎◌, inl, inr, ℕ, false, true, List, Option, Some, None, Result, Ok, Err, subst}
use Rattle.std.specs.Prelude.{IfOk, OnErr}
use Rattle.lists.specs.KeriSpecs.Shown.{HasNone}
use Rattle.keri_outside.specs.declared.signing.Signing.{Signing}
use Rattle.keri_roles.specs.declared.plan_answer.answer.PlanAnswer.{PlanAnswer}
use Rattle.keri_roles.specs.PlanAnswer.Answers.{CountsFaults, IsAnswer, SignsNoMore, signer_asked}
use Rattle.run_status.specs.declared.run_status.besides.Besides.{Besides}
use Rattle.run_status.specs.RunStatus.Status.{nothing_besides}
use Rattle.keri_roles.specs.KeriRoles.Made.{MadeFrom, OwesAnswer, OwesNone, found_in, written}
use Rattle.run_status.specs.RunRecord.Run.{SignerShown}

module _ (given : MadeFrom) (signer : SignerShown) (before : Option (List Signing)) (none_before : HasNone before) (owed : Option (List ℕ)) (besides : Besides) where
  -- the text of an answer is owed
  pub owes_answer : {E : Type 0} (answer : Result PlanAnswer E) → IfOk answer (IsAnswer (signer_asked given.gives before signer.signings) given.log given.text)
      → (faults : ℕ) → faults ≡ 0 → IfOk answer (CountsFaults faults signer.faults) → OnErr answer (false ≡ true)
      → IfOk answer (λ is. (owed ≡ Some (written is)) × (besides ≡ found_in is)) → OwesAnswer given signer owed besides ⊎ OwesNone given signer owed besides
  owes_answer (Ok is) answers faults unfailed counts ok owes = inl (record {
    answer = is;
    before = before;
    none_before = none_before;
    is = answers;
    counts = subst (λ n. CountsFaults n signer.faults is) unfailed counts;
    owes = owes.0;
    found = owes.1;
  })
  owes_answer (Err out) answers faults unfailed counts none owes = cc none

  -- there was no memory for one, or for its text
  pub owes_none : SignsNoMore (signer_asked given.gives before signer.signings) given.log given.text → owed ≡ None → besides ≡ nothing_besides
      → OwesAnswer given signer owed besides ⊎ OwesNone given signer owed besides
  owes_none few owes found = inr (record { before = before; none_before = none_before; few = few; owes = owes; found = found })
