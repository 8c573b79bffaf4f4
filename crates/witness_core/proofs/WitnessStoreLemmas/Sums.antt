-- Sums over bodies, of which one changes.
use Rattle.std.proofs.Common.{◌≡◌, ◌+◌, ℕ, zero, suc, List, [], ◌∷◌, slice_get, Some, refl, ap, arith}
use Rattle.std.specs.Prelude.{sum_by}
use Rattle.std.proofs.lemmas.List.Sums.{sum_by-cons}

module _ {X : Type 0} (f g : X → ℕ) where
  pub sum_same : (xs : List X) → ((m : ℕ) (x : X) → slice_get xs m ≡ Some x → f x ≡ g x) → sum_by f xs ≡ sum_by g xs
  sum_same [] each = omega arith
  sum_same (x ∷ xs) each = omega (arith, sum_by-cons f x xs, sum_by-cons g x xs, each 0 x refl, sum_same xs (λ m y at. each (suc m) y at))

  pub sum_change : (xs : List X) (n : ℕ) (x : X) → slice_get xs n ≡ Some x → ((m : ℕ) (y : X) → (m ≡ n → ⊥) → slice_get xs m ≡ Some y → f y ≡ g y)
      → sum_by f xs + g x ≡ sum_by g xs + f x
  sum_change [] n x at each = cc
  sum_change (y ∷ xs) zero x at each =
      let same : y ≡ x = cc in
      omega (arith, sum_by-cons f y xs, sum_by-cons g y xs, ap f same, ap g same, sum_same xs (λ m z there. each (suc m) z (λ e. omega (arith, e)) there))
  sum_change (y ∷ xs) (suc n) x at each =
      omega (arith, sum_by-cons f y xs, sum_by-cons g y xs, each 0 y (λ e. omega (arith, e)) refl, sum_change xs n x at (λ m z other there. each (suc m) z (λ e. other (omega (arith, e))) there))
