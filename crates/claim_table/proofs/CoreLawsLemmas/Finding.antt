-- Searches in a list with one more.
use Rattle.std.proofs.Common.{◌≡◌, Bool, List, [], ◌∷◌, ◌++◌, Some, None, refl, inl, inr, if◌then◌else◌}
use Rattle.std.specs.Prelude.{find}
use Rattle.std.proofs.lemmas.Bool.{cases_Bool}

module _ {X : Type 0} (test : X → Bool) (x : X) where
  -- what was found is found
  pub find-kept : (xs : List X) (y : X) → find test xs ≡ Some y → find test (xs ++ x ∷ []) ≡ Some y
  find-kept [] y e = cc
  find-kept (z ∷ xs) y e = elim (cases_Bool (test z)) [
    | inl k ↦ (let found : Some z ≡ Some y = rw k at e in rw k found)
    | inr k ↦ (let later : find test xs ≡ Some y = rw k at e in rw k (find-kept xs y later))
  ]

  -- where none was, the last is looked at
  pub find-next : (xs : List X) → find test xs ≡ None → find test (xs ++ x ∷ []) ≡ (if test x then Some x else None)
  find-next [] e = refl
  find-next (z ∷ xs) e = elim (cases_Bool (test z)) [
    | inl k ↦ (let found : Some z ≡ None = rw k at e in cc)
    | inr k ↦ (let later : find test xs ≡ None = rw k at e in rw k (find-next xs later))
  ]
