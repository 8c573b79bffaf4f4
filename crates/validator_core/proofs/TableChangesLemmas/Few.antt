-- Rising numbers, each among a list or that of an element that passes: they are no more than the list has and than pass.
use Rattle.std.proofs.Common.{◌≡◌, ◌⊎◌, ℕ, zero, suc, ◌+◌, ◌≤◌, Bool, true, cond, List, [], ◌∷◌, ◌++◌, length, Some, refl, ◌∙◌, ap, subst, inl, inr, arith, length-append}
use Rattle.std.specs.Prelude.{Contains, count_by, slice_get}
use Rattle.std.specs.Cmp.{unsigned_ties}
use Rattle.std.specs.List.Sorted.{IsStrictlySortedBy}
use Rattle.std.specs.Ordering.{nat_cmp}
use Rattle.std.proofs.lemmas.Bool.{cases_Bool}
use Rattle.std.proofs.lemmas.Cmp.{eq_by_cmp_equiv, nat_cmp_total}
use Rattle.std.proofs.lemmas.List.Elements.{Contains-append_left, Contains-append_right}
use Rattle.std.proofs.lemmas.List.Sums.{sum_by-cons}
use Rattle.std.proofs.lemmas.Map.Keys.{IsDistinct-from_sorted}
use Rattle.std.proofs.lemmas.Map.Made.{length-le_from_is_member}
use Rattle.std.proofs.lemmas.Map.Views.{Contains-from_any, list_any-from_Contains}
use Rattle.validator_core.proofs.TablesLemmas.Rows.{not_some, some_is}
use Rattle.key_state.proofs.Same.{numbers}
use Rattle.validator_core.proofs.TableChangesLemmas.DueNumbers.{behind_in, first_in}

module _ {X : Type 0} (p : X → Bool) where
  -- the numbers, from one on, of the elements that pass
  places : ℕ → List X → List ℕ
  places k [] = []
  places k (x ∷ xs) = cond (p x) (k ∷ places (k + 1) xs) (places (k + 1) xs)

  places_count : (k : ℕ) (xs : List X) → length (places k xs) ≡ count_by p xs
  unfolding places
  places_count k [] = refl
  places_count k (x ∷ xs) =
      let ih = places_count (k + 1) xs in
      let sum = sum_by-cons (λ y. cond (p y) 1 0) x xs in
      elim (cases_Bool (p x)) [
        | inl t ↦ (let one = rw t at sum in rw t (omega (arith, ih, one)))
        | inr t ↦ (let none = rw t at sum in rw t (omega (arith, ih, none)))
      ]

  place_in : (k : ℕ) (xs : List X) (n : ℕ) (x : X) → slice_get xs n ≡ Some x → p x ≡ true → Contains (places k xs) (k + n)
  unfolding places
  place_in k [] n x at t = absurd (not_some x at)
  place_in k (y ∷ xs) zero x at t =
      let here : p y ≡ true = ap p (some_is y x at) ∙ t in let same : k ≡ k + 0 = omega arith in
      rw here (subst (Contains (k ∷ places (k + 1) xs)) same (first_in k (places (k + 1) xs)))
  place_in k (y ∷ xs) (suc n) x at t =
      let same : (k + 1) + n ≡ k + suc n = omega arith in
      let there = subst (Contains (places (k + 1) xs)) same (place_in (k + 1) xs n x at t) in
      elim (cases_Bool (p y)) [
        | inl h ↦ rw h (behind_in k (places (k + 1) xs) (k + suc n) there)
        | inr h ↦ rw h there
      ]

  -- FEW
  pub few : (held : List X) (left due : List ℕ) → IsStrictlySortedBy nat_cmp due → ((n : ℕ) → Contains due n → Contains left n ⊎ ((x : X) × (slice_get held n ≡ Some x) × (p x ≡ true)))
      → length due ≤ length left + count_by p held
  few held left due rising each =
      let laws = eq_by_cmp_equiv nat_cmp_total in
      let all = left ++ places 0 held in
      let inside : (n : ℕ) → Contains due n → Contains all n
      = λ n has. elim (each n has) [
        | inl there ↦ Contains-append_left left (places 0 held) n there
        | inr at ↦ (let same : 0 + n ≡ n = omega arith in Contains-append_right left (places 0 held) n (subst (Contains (places 0 held)) same (place_in 0 held n at.0 at.1 at.2)))
      ] in
      let less : length due ≤ length all
      = length-le_from_is_member laws due all (IsDistinct-from_sorted nat_cmp due rising)
      (λ q member. list_any-from_Contains laws q all (inside q (Contains-from_any (λ x y t. numbers x y (unsigned_ties x y ∙ t)) q due member))) in
      omega (arith, less, length-append left (places 0 held), places_count 0 held)
