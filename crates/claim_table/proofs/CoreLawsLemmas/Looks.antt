-- How many candidates a run takes out.
use Rattle.std.proofs.Common.{◌≡◌, ℕ, ◌+◌, ◌*◌, ◌≤◌, Bool, false, cond, List, [], ◌∷◌, ◌++◌, length, refl, sym, ◌∙◌, ap, subst, arith, inl, inr, append_assoc, append-nil}
use Rattle.std.specs.Prelude.{count_by}
use Rattle.std.specs.List.{sum_by}
use Rattle.std.proofs.lemmas.Bool.{cases_Bool, or_parts}
use Rattle.std.proofs.lemmas.List.Sums.{sum_by-cons, sum_by-le-sum_by}
use Rattle.journal.specs.Journal.Grown.{IsGrown}
use Rattle.journal.specs.Journal.History.{bodies}
use Rattle.journal.specs.Journal.Accepted.{accepted}
use Rattle.journal.specs.Journal.Readiness.{is_ready}
use Rattle.claim_table.specs.CoreLaws.Candidates.{Runs, ends, passes, appends}
use Rattle.claim_table.specs.CoreLaws.Looks.{times, is_counted, counted, looks, appended_in, IsFrugal, LooksLaw, BoundTwiceLaw, BoundOnceLaw}
use Rattle.claim_table.specs.CoreLaws.Standing.{HasNoClash}
use Rattle.claim_table.specs.CoreLaws.Waking.{may_wake, wakes}
use Rattle.claim_table.proofs.CoreLawsLemmas.Woken.{woken_once, woken_twice}

module _ {B : Type 0} (ready : List B → B → Bool) (wakes : List B → B → B → Bool) (all : List B) where
  -- each look takes out one that was there or counts
  pub looks_few : (counts : List B → B → B → Bool) {due : List ℕ} {log end : List B} → (run : Runs ready wakes all due log end) → IsFrugal ready wakes all counts run
      → looks ready wakes all run ≤ length due + counted counts all log (appended_in ready wakes all run)
  unfolding looks appended_in IsFrugal counted
  looks_few counts ends few = omega arith
  looks_few counts (passes fails run) few = (let ih = looks_few counts run few in omega (arith, ih))
  looks_few counts (appends least at k wider run) few = (let ih = looks_few counts run few.1 in let here = few.0 in omega (arith, ih, here))

  pub ends_with : {due : List ℕ} {log end : List B} → (run : Runs ready wakes all due log end) → end ≡ log ++ appended_in ready wakes all run
  unfolding appended_in
  ends_with ends = sym (append-nil _)
  ends_with (passes fails run) = ends_with run
  ends_with (appends {log = log} {b = b} least at k wider run) = ends_with run ∙ append_assoc log (b ∷ []) _

-- sums
sum_plus : {X : Type 0} (f g : X → ℕ) (xs : List X) → sum_by (λ x. f x + g x) xs ≡ sum_by f xs + sum_by g xs
sum_plus f g [] = refl
sum_plus f g (x ∷ xs) = (let ih = sum_plus f g xs in
    sum_by-cons (λ x. f x + g x) x xs ∙ omega (arith, ih, sum_by-cons f x xs, sum_by-cons g x xs))

sum_zero : {X : Type 0} (xs : List X) → sum_by (λ x. 0) xs ≡ 0
sum_zero [] = refl
sum_zero (x ∷ xs) = omega (arith, sum_by-cons (λ x. 0) x xs, sum_zero xs)

module _ {B : Type 0} (counts : List B → B → B → Bool) (all : List B) where
  -- by elements in place of by steps
  counted_are : (log new : List B) → counted counts all log new ≡ sum_by (times counts log new) all
  unfolding counted times
  counted_are log [] = sym (sum_zero all)
  counted_are log (c ∷ new) = ap (λ n. count_by (counts log c) all + n) (counted_are (log ++ c ∷ []) new)
      ∙ sym (sum_plus (λ b. cond (counts log c b) 1 0) (times counts (log ++ c ∷ []) new) all)

  never_counted : (log new : List B) (b : B) → is_counted counts log new b ≡ false → times counts log new b ≡ 0
  unfolding is_counted times
  never_counted log [] b h = refl
  never_counted log (c ∷ new) b h = (let parts = or_parts (counts log c b) (is_counted counts (log ++ c ∷ []) new b) h in
      let here = parts.0 in let ih = never_counted (log ++ c ∷ []) new b parts.1 in rw (here, ih) refl)

  once_few : (log new : List B) → ((b : B) → times counts log new b ≤ 1) → counted counts all log new ≤ count_by (is_counted counts log new) all
  once_few log new once =
      let each : (b : B) → times counts log new b ≤ cond (is_counted counts log new b) 1 0
      = λ b. elim (cases_Bool (is_counted counts log new b)) [
        | inl k ↦ (let few = once b in rw k few)
        | inr k ↦ (let none = never_counted log new b k in rw (k, none) (omega arith))
      ] in
      omega (arith, counted_are log new, sum_by-le-sum_by (times counts log new) (λ b. cond (is_counted counts log new b) 1 0) all each)

  twice_few : (log new : List B) → ((b : B) → times counts log new b ≤ 2) → counted counts all log new ≤ 2 * count_by (is_counted counts log new) all
  twice_few log new twice =
      let each : (b : B) → times counts log new b ≤ cond (is_counted counts log new b) 1 0 + cond (is_counted counts log new b) 1 0
      = λ b. elim (cases_Bool (is_counted counts log new b)) [
        | inl k ↦ (let few = twice b in rw k few)
        | inr k ↦ (let none = never_counted log new b k in rw (k, none) (omega arith))
      ] in
      omega (
        arith,
        counted_are log new,
        sum_by-le-sum_by (times counts log new) (λ b. cond (is_counted counts log new b) 1 0 + cond (is_counted counts log new b) 1 0) all each,
        sum_plus (λ b. cond (is_counted counts log new b) 1 0) (λ b. cond (is_counted counts log new b) 1 0) all,
      )

-- LOOKS
pub looks_are : LooksLaw
looks_are mode base told t due end counts run few = looks_few (is_ready mode (told ++ t ∷ [])) (wakes mode) (bodies base (told ++ t ∷ [])) counts run few

-- BOUND
pub bound_twice : BoundTwiceLaw
bound_twice mode base told t due end run clear few =
    let all = bodies base (told ++ t ∷ []) in
    let ready = is_ready mode (told ++ t ∷ []) in
    let log = accepted mode base told in
    let new = appended_in ready (wakes mode) all run in
    let whole = ends_with ready (wakes mode) all run in
    let woken = twice_few (may_wake mode) all log new (λ b. woken_twice mode log new b (subst IsGrown whole clear.0) (subst HasNoClash whole clear.1)) in
    omega (arith, looks_few ready (wakes mode) all (may_wake mode) run few, woken)

pub bound_once : BoundOnceLaw
bound_once mode base told t due end run clear few =
    let all = bodies base (told ++ t ∷ []) in
    let ready = is_ready mode (told ++ t ∷ []) in
    let log = accepted mode base told in
    let new = appended_in ready (wakes mode) all run in
    let whole = ends_with ready (wakes mode) all run in
    let woken = once_few (wakes mode) all log new (λ b. woken_once mode log new b (subst IsGrown whole clear.0) (subst HasNoClash whole clear.1)) in
    omega (arith, looks_few ready (wakes mode) all (wakes mode) run few, woken)
