-- What stands at a place of a list: after one more element, and in the first part of it.
use Rattle.std.proofs.Common.{◌≡◌, ℕ, zero, suc, ◌<◌, List, [], ◌∷◌, ◌++◌, length, take, Some, refl, ap, arith}
use Rattle.std.specs.Prelude.{slice_get}

-- the element at the end, and those before it
pub at_end : {X : Type 0} (xs : List X) (x : X) → slice_get (xs ++ x ∷ []) (length xs) ≡ Some x
at_end [] x = refl
at_end (y ∷ xs) x = at_end xs x

pub not_at_end : {X : Type 0} (xs : List X) (x : X) (i : ℕ) → (i ≡ length xs → ⊥) → slice_get (xs ++ x ∷ []) i ≡ slice_get xs i
not_at_end [] x zero h = absurd (h refl)
not_at_end [] x (suc i) h = refl
not_at_end (y ∷ xs) x zero h = refl
not_at_end (y ∷ xs) x (suc i) h = not_at_end xs x i (λ e. h (ap (λ k. suc k) e))

-- in the first part the elements stand where they stood
pub in_front : {X : Type 0} (xs : List X) (k i : ℕ) → i < k → slice_get (take k xs) i ≡ slice_get xs i
in_front [] zero i h = refl
in_front [] (suc k) i h = refl
in_front (x ∷ xs) zero i h = absurd (omega (arith, h))
in_front (x ∷ xs) (suc k) zero h = refl
in_front (x ∷ xs) (suc k) (suc i) h = in_front xs k i (omega (arith, h))

pub of_front : {X : Type 0} (xs : List X) (k i : ℕ) (x : X) → slice_get (take k xs) i ≡ Some x → slice_get xs i ≡ Some x
of_front [] zero i x e = cc
of_front [] (suc k) i x e = cc
of_front (y ∷ xs) zero i x e = cc
of_front (y ∷ xs) (suc k) zero x e = e
of_front (y ∷ xs) (suc k) (suc i) x e = of_front xs k i x e
