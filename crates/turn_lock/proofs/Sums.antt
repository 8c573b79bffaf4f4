-- Lists of seats, read by `get_elem?`, and sums over them.
use Rattle.std.proofs.Common.{◌≡◌, ℕ, zero, suc, ◌+◌, ◌<◌, ◌≤◌, ◌≢◌, ◌⊎◌, List, [], ◌∷◌, ◌++◌, length, set, sum_by, sym, refl, ap, ◌∙◌, inl, inr, ⊎_elim, arith}
use Rattle.std.proofs.lemmas.List.Sums.{sum_by-cons}
use mathlib.Core.Option.{some, some-injective, some-ne-none}
use lib.ListN.{get_elem?}

module _ {A : Type 0} where
  -- the element that was set, and that there is one element at a place
  pub set_at : (l : List A) (i : ℕ) (a b : A) → get_elem? l i ≡ some a → get_elem? (set l i b) i ≡ some b
  set_at [] i a b e = absurd (some-ne-none a (sym e))
  set_at (x ∷ xs) zero a b e = refl
  set_at (x ∷ xs) (suc i) a b e = set_at xs i a b e

  pub same_at : (l : List A) (i : ℕ) (a b : A) → get_elem? l i ≡ some a → get_elem? l i ≡ some b → a ≡ b
  same_at l i a b e f = some-injective a b (sym e ∙ f)

  -- an element of a list with one more at its end
  pub snoc_at : (l : List A) (a b : A) (j : ℕ) → get_elem? (l ++ a ∷ []) j ≡ some b → ((j < length l) × (get_elem? l j ≡ some b)) ⊎ ((j ≡ length l) × (a ≡ b))
  snoc_at [] a b zero e = inr (refl, some-injective a b e)
  snoc_at [] a b (suc j) e = absurd (some-ne-none b (sym e))
  snoc_at (x ∷ xs) a b zero e = inl (omega arith, e)
  snoc_at (x ∷ xs) a b (suc j) e = ⊎_elim (λ t. inl (omega (arith, t.0), t.1)) (λ t. inr (ap suc t.0, t.1)) (snoc_at xs a b j e)

  module _ (f : A → ℕ) where
    -- the sum with one element changed, one term of it, and the sum where all other terms are 0
    pub sum_by-set_at : (l : List A) (i : ℕ) (a b : A) → get_elem? l i ≡ some a → sum_by f (set l i b) + f a ≡ sum_by f l + f b
    sum_by-set_at [] i a b e = absurd (some-ne-none a (sym e))
    sum_by-set_at (x ∷ xs) zero a b e = omega (arith, ap f (some-injective x a e), sum_by-cons f x xs, sum_by-cons f b xs)
    sum_by-set_at (x ∷ xs) (suc i) a b e = omega (arith, sum_by-set_at xs i a b e, sum_by-cons f x xs, sum_by-cons f x (set xs i b))

    pub sum_by-at : (l : List A) (i : ℕ) (a : A) → get_elem? l i ≡ some a → f a ≤ sum_by f l
    sum_by-at [] i a e = absurd (some-ne-none a (sym e))
    sum_by-at (x ∷ xs) zero a e = omega (arith, ap f (some-injective x a e), sum_by-cons f x xs)
    sum_by-at (x ∷ xs) (suc i) a e = omega (arith, sum_by-at xs i a e, sum_by-cons f x xs)

    pub sum_by-none : (l : List A) → ((j : ℕ) (u : A) → get_elem? l j ≡ some u → f u ≡ 0) → sum_by f l ≡ 0
    sum_by-none [] z = refl
    sum_by-none (x ∷ xs) z = omega (arith, z 0 x refl, sum_by-none xs (λ j u e. z (suc j) u e), sum_by-cons f x xs)

    pub sum_by-only : (l : List A) (i : ℕ) (a : A) → get_elem? l i ≡ some a → ((j : ℕ) (u : A) → j ≢ i → get_elem? l j ≡ some u → f u ≡ 0) → sum_by f l ≡ f a
    sum_by-only [] i a e z = absurd (some-ne-none a (sym e))
    sum_by-only (x ∷ xs) zero a e z = omega (arith, ap f (some-injective x a e), sum_by-cons f x xs, sum_by-none xs (λ j u g. z (suc j) u (λ h. omega arith) g))
    sum_by-only (x ∷ xs) (suc i) a e z = omega (arith, z 0 x (λ h. omega arith) refl, sum_by-cons f x xs, sum_by-only xs i a e (λ j u n g. z (suc j) u (λ h. n (omega arith)) g))
