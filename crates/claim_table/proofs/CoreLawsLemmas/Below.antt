-- A threshold is met by the same lists of indices that are below the number of its keys.
use Rattle.std.proofs.Common.{◌≡◌, ◌==◌, ◌<◌, ℕ, zero, suc, ◌+◌, ◌≤◌, Bool, List, [], ◌∷◌, length, refl, ap, arith}
use Rattle.std.specs.Prelude.{nat_le}
use Rattle.std.specs.List.{list_any, sum_by}
use Rattle.std.proofs.lemmas.List.Sums.{sum_by-cons}
use Rattle.sith.specs.declared.weight.Weight.{Weight}
use Rattle.sith.specs.declared.term.Term.{Term}
use Rattle.sith.specs.declared.term.Term.TheVariants.{Single, Group}
use Rattle.sith.specs.declared.threshold.Threshold.{Threshold}
use Rattle.sith.specs.declared.threshold.Threshold.TheVariants.{Count, Flat, Nested}
use Rattle.sith.specs.Clauses.{shares_at, reach_whole}
use Rattle.sith.specs.Terms.{outer_weight, term_size, clause_size, is_given, is_term_met}
use Rattle.sith.specs.Thresholds.{weight_count}
use Rattle.sith.specs.Rules.{count_below, IsReadFor}
use Rattle.sith.specs.Tests.{are_met, satisfied}
use Rattle.sith.proofs.Lists.{sum_by_ones}

-- the number is among these
abbrev pub is_among : List ℕ → ℕ → Bool
is_among numbers n = list_any (λ i. i == n) numbers

-- a number below the bound is among the ones exactly where it is among the others
abbrev pub AreSameBelow : ℕ → List ℕ → List ℕ → Type 0
AreSameBelow bound numbers others = (n : ℕ) → n < bound → is_among numbers n ≡ is_among others n

module _ (xs ys : List ℕ) where
  counted : (bound : ℕ) → AreSameBelow bound xs ys → count_below bound xs ≡ count_below bound ys
  counted zero same = refl
  counted (suc bound) same =
      let here = same bound (omega arith) in
      let ih = counted bound (λ n h. same n (omega (arith, h))) in
      rw (here, ih) refl

  -- what each member meets below the bound, all of them meet
  module _ {A : Type 0} (weight : A → Weight) (size : A → ℕ) (met : A → ℕ → List ℕ → Bool) (bound : ℕ) (one : (a : A) (start : ℕ) → start + size a ≤ bound → met a start xs ≡ met a start ys) where
    shares : (members : List A) (start : ℕ) → start + sum_by size members ≤ bound → shares_at weight size met members start xs ≡ shares_at weight size met members start ys
    shares [] start h = refl
    shares (a ∷ members) start h =
        let all = sum_by-cons size a members in
        let here = one a start (omega (arith, h, all)) in
        let ih = shares members (start + size a) (omega (arith, h, all)) in
        rw (here, ih) refl

  inner : (bound : ℕ) → AreSameBelow bound xs ys → (weights : List Weight) (start : ℕ) → start + length weights ≤ bound → shares_at (λ w. w) (λ w. 1) is_given weights start xs ≡ shares_at (λ w. w) (λ w. 1) is_given weights start ys
  inner bound same weights start h =
      shares (λ w. w) (λ (w : Weight). 1) is_given bound (λ w at within. same at (omega (arith, within))) weights start (omega (arith, h, sum_by_ones (λ (w : Weight). 1) (λ w. refl) weights))

  term : (bound : ℕ) → AreSameBelow bound xs ys → (t : Term) (start : ℕ) → start + term_size t ≤ bound → is_term_met t start xs ≡ is_term_met t start ys
  term bound same (Single weight) start h = same start (omega (arith, h))
  term bound same (Group weight weights) start h = ap reach_whole (inner bound same weights start h)

  clauses : (cs : List (List Term)) (start bound : ℕ) → start + weight_count cs ≤ bound → AreSameBelow bound xs ys → are_met cs start xs ≡ are_met cs start ys
  clauses [] start bound h same = refl
  clauses (c ∷ cs) start bound h same =
      let all = sum_by-cons clause_size c cs in
      let here = shares outer_weight term_size is_term_met bound (term bound same) c start (omega (arith, h, all)) in
      let ih = clauses cs (start + clause_size c) bound (omega (arith, h, all)) same in
      rw (here, ih) refl

  -- SATISFIED: indices that are the same below the number of keys meet the same thresholds
  pub same_satisfied : (threshold : Threshold) (keys : ℕ) → IsReadFor threshold keys → AreSameBelow keys xs ys → satisfied threshold keys xs ≡ satisfied threshold keys ys
  unfolding satisfied
  same_satisfied (Count n) keys read same = ap (nat_le n) (counted keys same)
  same_satisfied (Flat terms) keys read same = let all = read.0 in clauses (terms ∷ []) 0 keys (omega (arith, all, sum_by-cons clause_size terms [])) same
  same_satisfied (Nested []) keys read same = refl
  same_satisfied (Nested (c ∷ cs)) keys read same = let all = read.0.1 in clauses (c ∷ cs) 0 keys (omega (arith, all)) same
