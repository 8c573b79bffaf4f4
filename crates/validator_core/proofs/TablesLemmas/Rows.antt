-- What stands at a place of a list: after one more element, and in the first part of it.
use Rattle.std.proofs.Common.{◌≡◌, ℕ, ◌<◌, ◌≤◌, zero, suc, false, List, [], ◌∷◌, ◌++◌, length, take, refl, sym, ◌∙◌, ap, inl, inr, arith, Some, None}
use Rattle.std.specs.Prelude.{◌⊎◌, Contains, slice_get, ◌==◌}
use Rattle.std.specs.List.{list_any}
use Rattle.std.proofs.lemmas.Bool.{cases_Bool, cases_eq}
use Rattle.key_state.proofs.Same.{numbers}
use Rattle.journal.proofs.JournalLemmas.Places.{slice_get_before, slice_get_last}

pub some_is : {X : Type 0} (x y : X) → Some x ≡ Some y → x ≡ y
some_is x y e = cc

pub not_some : {X : Type 0} (x : X) → None ≡ Some x → ⊥
not_some x e = cc

-- an element of a list with one more is the last one, or stood there before
pub pushed : {X : Type 0} (xs : List X) (x y : X) (i : ℕ) → slice_get (xs ++ x ∷ []) i ≡ Some y → ((i ≡ length xs) × (x ≡ y)) ⊎ (slice_get xs i ≡ Some y)
pushed xs x y i at = elim (cases_eq i (length xs)) [
  | inl last ↦ inl (last, some_is x y (sym (slice_get_last xs x) ∙ ap (slice_get (xs ++ x ∷ [])) (sym last) ∙ at))
  | inr before ↦ inr (slice_get_before xs x i y before at)
]

-- behind the first part none stands
pub past_front : {X : Type 0} (xs : List X) (k i : ℕ) → k ≤ i → slice_get (take k xs) i ≡ None
past_front [] zero i h = refl
past_front [] (suc k) i h = refl
past_front (x ∷ xs) zero i h = refl
past_front (x ∷ xs) (suc k) zero h = absurd (omega (arith, h))
past_front (x ∷ xs) (suc k) (suc i) h = past_front xs k i (omega (arith, h))

pub front_of_front : {X : Type 0} (m n : ℕ) (xs : List X) → m ≤ n → take m (take n xs) ≡ take m xs
front_of_front zero n xs h = refl
front_of_front (suc m) zero xs h = absurd (omega (arith, h))
front_of_front (suc m) (suc n) [] h = refl
front_of_front (suc m) (suc n) (x ∷ xs) h = ap (λ ys. x ∷ ys) (front_of_front m n xs (omega (arith, h)))

-- an element that stands somewhere is contained
pub contained : {X : Type 0} (xs : List X) (i : ℕ) (x : X) → slice_get xs i ≡ Some x → Contains xs x
contained [] i x at = absurd (not_some x at)
contained (y ∷ xs) zero x at = (zero, omega arith, some_is y x at)
contained (y ∷ xs) (suc i) x at = let more = contained xs i x at in (suc more.0, omega (arith, more.1), more.2)

-- two numbers that differ don't pass the test
pub differ : (m n : ℕ) → (m ≡ n → ⊥) → (m == n) ≡ false
differ m n h = elim (cases_Bool (m == n)) [ inl k ↦ absurd (h (numbers m n k)) | inr k ↦ k ]

-- a number isn't among lesser ones
pub none_below : (xs : List ℕ) (n : ℕ) → ((i m : ℕ) → slice_get xs i ≡ Some m → m < n) → list_any (λ m. m == n) xs ≡ false
none_below [] n low = refl
none_below (x ∷ xs) n low =
    let here = differ x n (λ same. let less = low 0 x refl in absurd (omega (arith, less, same))) in
    let more = none_below xs n (λ i m at. low (suc i) m at) in rw (here, more) refl
