-- Places in a list with one more element.
use Rattle.std.proofs.Common.{◌≡◌, ℕ, suc, ◌+◌, Bool, true, List, [], ◌∷◌, ◌++◌, length, Some, None, refl, sym, ◌∙◌, ap, inl, inr, arith, ◌<◌, get_or}
use Rattle.std.specs.Prelude.{Contains, find, position}
use Rattle.std.proofs.lemmas.Option.{slice_get-get_or}
use Rattle.validator_core.proofs.TablesLemmas.Rows.{contained, some_is}
use Rattle.std.specs.List.{position_from}
use Rattle.std.proofs.lemmas.Bool.{cases_Bool}
use Rattle.std.proofs.lemmas.Iterator.Adapters.{position_from-zero}

module _ {X : Type 0} (test : X → Bool) (x : X) where
  -- where none passes before it, the last may be the first
  last_from : (k : ℕ) (xs : List X) → find test xs ≡ None → test x ≡ true → position_from test k (xs ++ x ∷ []) ≡ Some (k + length xs)
  last_from k [] none is = let zero_more : k ≡ k + 0 = omega arith in rw is (ap Some zero_more)
  last_from k (y ∷ ys) none is = elim (cases_Bool (test y)) [
    | inl t ↦ (let some : Some y ≡ None = rw t at none in cc)
    | inr t ↦ (let ih = last_from (k + 1) ys (rw t at none) is in let more : (k + 1) + length ys ≡ k + suc (length ys) = omega arith in rw t (ih ∙ ap Some more))
  ]

  pub last_is_first : (xs : List X) → find test xs ≡ None → test x ≡ true → position test (xs ++ x ∷ []) ≡ Some (length xs)
  last_is_first xs none is = let same : 0 + length xs ≡ length xs = omega arith in position_from-zero test (xs ++ x ∷ []) ∙ last_from 0 xs none is ∙ ap Some same

  -- and where it is, none passes before it
  below_from : (k i : ℕ) (xs : List X) → position_from test k (xs ++ x ∷ []) ≡ Some i → i ≡ k + length xs → (find test xs ≡ None) × (test x ≡ true)
  below_from k i [] at same = elim (cases_Bool (test x)) [
    | inl t ↦ (refl, t)
    | inr t ↦ (let none : None ≡ Some i = rw t at at in cc)
  ]
  below_from k i (y ∷ ys) at same = elim (cases_Bool (test y)) [
    | inl t ↦ (let here : Some k ≡ Some i = rw t at at in let one : k ≡ i = cc in absurd (omega (arith, one, same)))
    | inr t ↦ (let rest = below_from (k + 1) i ys (rw t at at) (omega (arith, same)) in (rw t rest.0, rest.1))
  ]

  pub first_is_last : (i : ℕ) (xs : List X) → position test (xs ++ x ∷ []) ≡ Some i → i ≡ length xs → (find test xs ≡ None) × (test x ≡ true)
  first_is_last i xs at same = below_from 0 i xs (sym (position_from-zero test (xs ++ x ∷ [])) ∙ at) (let zero_more : length xs ≡ 0 + length xs = omega arith in same ∙ zero_more)

-- an element at a place is in the list
pub got_contained : {X : Type 0} (xs : List X) (i : ℕ) (d : X) → i < length xs → Contains xs (get_or xs i d)
got_contained xs i d low = contained xs i (get_or xs i d) (slice_get-get_or xs i d low)

-- whatever stands for an element that isn't there
pub got_any : {X : Type 0} (xs : List X) (i : ℕ) (d e : X) → i < length xs → get_or xs i d ≡ get_or xs i e
got_any xs i d e low = some_is (get_or xs i d) (get_or xs i e) (sym (slice_get-get_or xs i d low) ∙ slice_get-get_or xs i e low)
