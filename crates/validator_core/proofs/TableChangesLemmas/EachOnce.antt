-- Numbers that rise are taken each once.
use Rattle.std.proofs.Common.{◌≡◌, ℕ, zero, suc, ◌<◌, true, false, ◌==◌, List, [], ◌∷◌, length, take, inl, inr, arith, get_or}
use Rattle.std.specs.List.{list_any}
use Rattle.std.specs.List.Sorted.{IsStrictlyIncreasing}
use Rattle.std.proofs.lemmas.Bool.{cases_Bool}
use Rattle.std.proofs.lemmas.List.Kept.{AllPairs-from_increasing}
use Rattle.key_state.proofs.Same.{numbers}

-- where a number is among the first, it stands at some place before
found_before : (xs : List ℕ) (k m : ℕ) → k < length xs → list_any (λ x. x == m) (take k xs) ≡ true → (j : ℕ) × (j < k) × (get_or xs j 0 ≡ m)
found_before xs zero m low h = cc
found_before [] (suc k) m low h = absurd (omega (arith, low))
found_before (x ∷ xs) (suc k) m low h = elim (cases_Bool (x == m)) [
  | inl is ↦ (zero, omega arith, numbers x m is)
  | inr other ↦ (let rest = found_before xs k m (omega (arith, low)) (rw other at h) in (suc rest.0, omega (arith, rest.1), rest.2))
]

-- ONCE: none of those before is the next
pub once : (xs : List ℕ) (k : ℕ) → IsStrictlyIncreasing xs → k < length xs → list_any (λ x. x == get_or xs k 0) (take k xs) ≡ false
once xs k rising low = elim (cases_Bool (list_any (λ x. x == get_or xs k 0) (take k xs))) [
  | inr none ↦ none
  | inl some ↦ (let there = found_before xs k (get_or xs k 0) low some in
      let less = AllPairs-from_increasing xs rising there.0 k 0 there.1 low in let same = there.2 in absurd (omega (arith, less, same)))
]
