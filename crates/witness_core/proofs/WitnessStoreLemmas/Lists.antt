-- Lists that are cut at a place.
use Rattle.std.proofs.Common.{◌≡◌, ◌≤◌, ◌+◌, ℕ, zero, suc, List, [], ◌∷◌, ◌++◌, length, take, drop, map, slice_get, set, Some, refl, sym, ◌∙◌, ap, arith}

-- a list is the first of itself followed by others
pub take_front : {X : Type 0} (xs ys : List X) → take (length xs) (xs ++ ys) ≡ xs
take_front [] ys = refl
take_front (x ∷ xs) ys = ap (λ l. x ∷ l) (take_front xs ys)

pub take_within : {X : Type 0} (xs ys : List X) (n : ℕ) → n ≤ length xs → take n (xs ++ ys) ≡ take n xs
take_within xs ys zero le = refl
take_within [] ys (suc n) le = absurd (omega (arith, le))
take_within (x ∷ xs) ys (suc n) le = ap (λ l. x ∷ l) (take_within xs ys n (omega (arith, le)))

pub drop_within : {X : Type 0} (xs ys : List X) (n : ℕ) → n ≤ length xs → drop n (xs ++ ys) ≡ drop n xs ++ ys
drop_within xs ys zero le = refl
drop_within [] ys (suc n) le = absurd (omega (arith, le))
drop_within (x ∷ xs) ys (suc n) le = drop_within xs ys n (omega (arith, le))

next : (n : ℕ) → suc n ≡ n + 1
next n = omega arith

module _ {X : Type 0} where
  from_place : (xs : List X) (n : ℕ) (x : X) → slice_get xs n ≡ Some x → drop n xs ≡ x ∷ drop (suc n) xs
  from_place [] n x at = cc
  from_place (y ∷ xs) zero x at = let same : y ≡ x = cc in ap (λ z. z ∷ xs) same
  from_place (y ∷ xs) (suc n) x at = from_place xs n x at

  to_place : (xs : List X) (n : ℕ) (x : X) → slice_get xs n ≡ Some x → take (suc n) xs ≡ take n xs ++ x ∷ []
  to_place [] n x at = cc
  to_place (y ∷ xs) zero x at = let same : y ≡ x = cc in ap (λ z. z ∷ []) same
  to_place (y ∷ xs) (suc n) x at = ap (λ l. y ∷ l) (to_place xs n x at)

  at_place : (xs : List X) (n : ℕ) (x : X) → slice_get xs n ≡ Some x → xs ≡ take n xs ++ x ∷ drop (suc n) xs
  at_place [] n x at = cc
  at_place (y ∷ xs) zero x at = let same : y ≡ x = cc in ap (λ z. z ∷ xs) same
  at_place (y ∷ xs) (suc n) x at = ap (λ l. y ∷ l) (at_place xs n x at)

  -- what stands from a place on
  pub drop_place : (xs : List X) (n : ℕ) (x : X) → slice_get xs n ≡ Some x → drop n xs ≡ x ∷ drop (n + 1) xs
  drop_place xs n x at = from_place xs n x at ∙ ap (λ k. x ∷ drop k xs) (next n)

  -- and before it
  pub take_place : (xs : List X) (n : ℕ) (x : X) → slice_get xs n ≡ Some x → take (n + 1) xs ≡ take n xs ++ x ∷ []
  take_place xs n x at = ap (λ k. take k xs) (sym (next n)) ∙ to_place xs n x at

  pub parted_at : (xs : List X) (n : ℕ) (x : X) → slice_get xs n ≡ Some x → xs ≡ take n xs ++ x ∷ drop (n + 1) xs
  parted_at xs n x at = at_place xs n x at ∙ ap (λ k. take n xs ++ x ∷ drop k xs) (next n)

  -- a value for each, of which one changes
  module _ {Y : Type 0} (f g : X → Y) where
    pub map_same : (xs : List X) → ((m : ℕ) (x : X) → slice_get xs m ≡ Some x → f x ≡ g x) → map f xs ≡ map g xs
    map_same [] each = refl
    map_same (x ∷ xs) each =
        let here = each 0 x refl in
        let rest = map_same xs (λ m y at. each (suc m) y at) in
        λ i. here i ∷ rest i

    pub map_change : (xs : List X) (n : ℕ) (x : X) → slice_get xs n ≡ Some x → ((m : ℕ) (y : X) → (m ≡ n → ⊥) → slice_get xs m ≡ Some y → f y ≡ g y)
        → map g xs ≡ set (map f xs) n (g x)
    map_change [] n x at each = cc
    map_change (y ∷ xs) zero x at each =
        let same : y ≡ x = cc in
        let rest = map_same xs (λ m z there. each (suc m) z (λ e. omega (arith, e)) there) in
        λ i. g (same i) ∷ sym rest i
    map_change (y ∷ xs) (suc n) x at each =
        let here = each 0 y (λ e. omega (arith, e)) refl in
        let rest = map_change xs n x at (λ m z other there. each (suc m) z (λ e. other (omega (arith, e))) there) in
        λ i. sym here i ∷ rest i

  -- what a map has at a place
  pub map_at : {Y : Type 0} (f : X → Y) (xs : List X) (n : ℕ) (x : X) → slice_get xs n ≡ Some x → slice_get (map f xs) n ≡ Some (f x)
  map_at f [] n x at = cc
  map_at f (y ∷ xs) zero x at = let same : y ≡ x = cc in ap (λ z. Some (f z)) same
  map_at f (y ∷ xs) (suc n) x at = map_at f xs n x at
