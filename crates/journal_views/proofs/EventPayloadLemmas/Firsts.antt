-- First comings: what is asked of all elements is asked of them, and there are no more of them.
use Rattle.std.proofs.Common.{◌≡◌, ◌≤◌, ◌||◌, Bool, true, false, not, List, [], ◌∷◌, length, map, All, Option, Some, None, refl, sym, ap, ◌∙◌, inl, inr, arith}
use Rattle.std.specs.List.{cons_option, list_any}
use Rattle.std.specs.Prelude.{filter, filter_map}
use Rattle.std.proofs.lemmas.Bool.{cases_Bool, not-false}
use Rattle.std.proofs.lemmas.List.Elements.{All-cons, All-filter, All-head, All-nil, All-tail}
use Rattle.key_state.specs.Same.{distinct}

-- a filter leaves no more
filter_shorter : {X : Type 0} (p : X → Bool) (xs : List X) → length (filter p xs) ≤ length xs
filter_shorter p [] = omega arith
filter_shorter p (x ∷ xs) = elim (cases_Bool (p x)) [ inl k ↦ rw k (omega (arith, filter_shorter p xs)) | inr k ↦ rw k (omega (arith, filter_shorter p xs)) ]

-- what is left out fails the test
any_filter : {X : Type 0} (p test : X → Bool) → ((x : X) → p x ≡ false → test x ≡ false) → (xs : List X) → list_any test (filter p xs) ≡ list_any test xs
any_filter p test fails [] = refl
any_filter p test fails (x ∷ xs) =
    let behind = any_filter p test fails xs in
    elim (cases_Bool (p x)) [ inl k ↦ rw k (ap (λ t. test x || t) behind) | inr k ↦ (let none = fails x k in rw (k, none) behind) ]

pub any_map : {X Y : Type 0} (f : X → Y) (test : Y → Bool) (xs : List X) → list_any test (map f xs) ≡ list_any (λ x. test (f x)) xs
any_map f test [] = refl
any_map f test (x ∷ xs) = ap (λ t. test (f x) || t) (any_map f test xs)

module _ {X : Type 0} (same : X → X → Bool) where
  pub distinct_shorter : (xs : List X) → length (distinct same xs) ≤ length xs
  unfolding distinct
  distinct_shorter [] = omega arith
  distinct_shorter (x ∷ xs) = omega (arith, filter_shorter (λ y. not (same x y)) (distinct same xs), distinct_shorter xs)

  pub All-distinct : (P : X → Type 0) (xs : List X) → All P xs → All P (distinct same xs)
  unfolding distinct
  All-distinct P [] all = All-nil P
  All-distinct P (x ∷ xs) all =
      All-cons P x (filter (λ y. not (same x y)) (distinct same xs)) (All-head P x xs all)
      (All-filter (λ y. not (same x y)) P (distinct same xs) (All-distinct P xs (All-tail P x xs all)))

  -- a test that the same pass is passed by one of the first comings just where it is by one of all
  pub any_first : (test : X → Bool) → ((x y : X) → same x y ≡ true → test x ≡ test y) → (xs : List X) → list_any test (distinct same xs) ≡ list_any test xs
  unfolding distinct
  any_first test alike [] = refl
  any_first test alike (x ∷ xs) = elim (cases_Bool (test x)) [
    | inl k ↦ rw k refl
    | inr k ↦ rw k (any_filter (λ y. not (same x y)) test (λ y out. sym (alike x y (not-false (same x y) out)) ∙ k) (distinct same xs) ∙ any_first test alike xs)
  ]

-- a choice of fewer chooses no more
pub chosen_fewer : {X Y : Type 0} (h : X → Option Y) (p : X → Bool) (xs : List X) → length (filter_map h (filter p xs)) ≤ length (filter_map h xs)
chosen_fewer h p [] = omega arith
chosen_fewer h p (x ∷ xs) =
    let behind = chosen_fewer h p xs in
    elim (cases_Bool (p x)) [ inl k ↦ rw k (with (h x) _ _ behind) | inr k ↦ rw k (more (h x) _ _ behind) ]
  where
    with : {Y : Type 0} (o : Option Y) (ys zs : List Y) → length ys ≤ length zs → length (cons_option o ys) ≤ length (cons_option o zs)
    with None ys zs few = few
    with (Some y) ys zs few = omega (arith, few)

    more : {Y : Type 0} (o : Option Y) (ys zs : List Y) → length ys ≤ length zs → length ys ≤ length (cons_option o zs)
    more None ys zs few = few
    more (Some y) ys zs few = omega (arith, few)
