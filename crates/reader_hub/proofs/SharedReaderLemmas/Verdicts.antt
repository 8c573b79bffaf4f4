-- Open questions and verdicts as more is told.
use Rattle.std.proofs.Common.{◌≡◌, ℕ, suc, ◌+◌, ◌%◌, ◌≤◌, Bool, true, false, not, ◌&&◌, ◌||◌, List, [], ◌∷◌, ◌++◌, Option, Some, None, length, length-append, refl, sym, ◌∙◌, ap, subst, arith, true≢false}
use Rattle.std.specs.Prelude.{flat_map, slice_get}
use Rattle.std.specs.List.{list_any}
use Rattle.std.proofs.lemmas.Bool.{and_parts, not-true}
use Rattle.std.proofs.lemmas.Grind.{flat_map-append}
use Rattle.std.proofs.lemmas.List.Folds.{list_any-append}
use Rattle.std.proofs.lemmas.Map.Views.{any-filter_same}
use mathlib.Core.List.{IsPrefix}
use Rattle.journal.specs.declared.journal.body.Body.{Body}
use Rattle.journal.specs.declared.journal.mode.Mode.{Mode}
use Rattle.journal.specs.declared.journal.question.Question.{Question}
use Rattle.journal.specs.Journal.History.{Told, Triple, bodies, has_verdict, heard_in, same_triple}
use Rattle.journal.specs.Journal.Journals.{Names, asked}
use Rattle.journal.specs.Journal.Questions.{next_question, questions, raised}
use Rattle.journal.proofs.JournalLemmas.Places.{any_at, some_at}
use Rattle.journal.proofs.JournalLemmas.Same.{same_triple_is, same_triple_itself}
use Rattle.validator_core.proofs.ValidatorCoreLemmas.OpenQuestions.{named_on}
use Rattle.reader_hub.specs.SharedReader.Asks.{verdict_count}

pub verdict_count-append : (xs ys : List Told) → verdict_count (xs ++ ys) ≡ verdict_count xs + verdict_count ys
verdict_count-append xs ys = ap length (flat_map-append heard_in xs ys) ∙ length-append (flat_map heard_in xs) (flat_map heard_in ys)

pub verdict_count_grows : (xs ys : List Told) → IsPrefix xs ys → verdict_count xs ≤ verdict_count ys
verdict_count_grows xs ys p = subst (λ l. verdict_count xs ≤ verdict_count l) p.1 (let e = verdict_count-append xs p.0 in omega (arith, e))

some_in : (f : Triple → Bool) (ts : List Triple) → list_any f ts ≡ true → 1 ≤ length ts
some_in f [] e = absurd (true≢false (sym e))
some_in f (t ∷ ts) e = omega arith

-- where a triple has its first verdict between, one more was told
pub new_heard : (t : Triple) (xs ys : List Told) → IsPrefix xs ys → has_verdict xs t ≡ false → has_verdict ys t ≡ true → suc (verdict_count xs) ≤ verdict_count ys
unfolding has_verdict
new_heard t xs ys p none has =
    let parted : has_verdict (xs ++ p.0) t ≡ (has_verdict xs t || has_verdict p.0 t) = ap (list_any (same_triple t)) (flat_map-append heard_in xs p.0) ∙ list_any-append (same_triple t) (flat_map heard_in xs) (flat_map heard_in p.0) in
    let later : has_verdict p.0 t ≡ true = ap (λ b. b || has_verdict p.0 t) (sym none) ∙ (sym parted ∙ (ap (λ l. has_verdict l t) p.1 ∙ has)) in
    let one = some_in (same_triple t) (flat_map heard_in p.0) later in
    subst (λ l. suc (verdict_count xs) ≤ verdict_count l) p.1 (let e = verdict_count-append xs p.0 in omega (arith, e, one))

-- a triple is among the open questions where it is raised and has no verdict
pub open_in : (mode : Mode) (told : List Told) (t : Triple) → list_any (same_triple t) (questions mode [] told) ≡ (not (has_verdict told t) && list_any (same_triple t) (raised mode [] told))
unfolding questions
open_in mode told t = any-filter_same (same_triple t) (λ u. not (has_verdict told u)) (not (has_verdict told t)) (λ u h. ap (λ v. not (has_verdict told v)) (sym (same_triple_is t u h))) (raised mode [] told)

module _ (mode : Mode) (told : List Told) (skip : ℕ) where
  -- what a question names is raised, and has no verdict
  pub named_open : (q : Question) (b : Body) → slice_get (bodies [] told) q.body ≡ Some b → Names (bodies [] told) (Some q) (next_question mode [] told skip)
      → (has_verdict told (named_on q b) ≡ false) × (list_any (same_triple (named_on q b)) (raised mode [] told) ≡ true)
  unfolding next_question
  named_open q b at names = by_found (next_question mode [] told skip) refl names
    where
      by_found : (o : Option Triple) → next_question mode [] told skip ≡ o → Names (bodies [] told) (Some q) o → (has_verdict told (named_on q b) ≡ false) × (list_any (same_triple (named_on q b)) (raised mode [] told) ≡ true)
      by_found None e n = absurd n
      by_found (Some t) e n =
          let same : Some (named_on q b) ≡ Some t = rw at at n in
          let there = any_at (same_triple (named_on q b)) (questions mode [] told) (skip % length (questions mode [] told)) (named_on q b) (e ∙ sym same) (same_triple_itself (named_on q b)) in
          let parts = and_parts _ _ (sym (open_in mode told (named_on q b)) ∙ there) in
          (not-true _ parts.0, parts.1)

  -- where none is named, none is open
  pub none_open : Names (bodies [] told) None (next_question mode [] told skip) → questions mode [] told ≡ []
  unfolding next_question
  none_open names = by_questions (questions mode [] told) names
    where
      by_questions : (ts : List Triple) → Names (bodies [] told) None (slice_get ts (skip % length ts)) → ts ≡ []
      by_questions [] n = refl
      by_questions (t ∷ ts) n = let found = some_at (t ∷ ts) (skip % length (t ∷ ts)) (omega arith) in let is = found.1 in absurd (rw is at n)

-- the question of number 0, where its body is held, is the first that is open
pub first_named : (mode : Mode) (base : List Body) (told : List Told) (held : List Body) (q : Question) (b : Body) → slice_get held q.body ≡ Some b → Names held (Some q) (next_question mode base told 0)
    → slice_get (questions mode base told) 0 ≡ Some (named_on q b)
unfolding next_question
first_named mode base told held q b at names = by_questions (questions mode base told) names
  where
    by_questions : (ts : List Triple) → Names held (Some q) (slice_get ts (0 % length ts)) → slice_get ts 0 ≡ Some (named_on q b)
    by_questions [] n = absurd n
    by_questions (t ∷ ts) n =
        let first : 0 % length (t ∷ ts) ≡ 0 = omega arith in
        let triple : asked held q ≡ Some t = rw first at n in
        let same : Some (named_on q b) ≡ Some t = rw at at triple in
        sym same
