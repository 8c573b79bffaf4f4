-- A clause by the product of its denominators and by another common multiple.
use Rattle.std.proofs.Common.{◌≡◌, ℕ, zero, suc, ◌+◌, ◌*◌, ◌/◌, ◌-◌, ◌^◌, ◌<◌, ◌≤◌, min, Bool, List, [], ◌∷◌, map, true, false, inl, inr, refl, sym, ap, subst, ◌∙◌, arith}
use Prim.Native.Nat.{◌∣◌}
use native.Mathlib.Nat.{dvd-mul_left_of_dvd, dvd-mul_right, div-mul_cancel, div-eq_of_eq-mul_left, mul_assoc, mul_comm, mul-le-mul_right, add-mul}
use Rattle.std.specs.Prelude.{◌↔◌}
use Rattle.std.specs.List.{AllByRecursion}
use Rattle.std.proofs.lemmas.Bool.{cases_Bool, cases_lt, leb-true, le-leb, false≢true}
use Rattle.std.proofs.Math.Dec.{leb}
use Rattle.sith.proofs.DivisorSteps.{factor_some}
use Rattle.sith.specs.declared.weight.Weight.{Weight}
use Rattle.sith.specs.declared.weight.Weight.TheVariants.{Zero, One, Part}
use Rattle.sith.specs.Weights.{IsWeight, numerator, denominator}
use Rattle.sith.specs.Divisors.{AllDivide, IsLeastMultiple}
use Rattle.sith.specs.Clauses.{Share, product, sum_met, reach_whole, shares_at, all_met, IsFine, IsTooFine}

abbrev pub denominators : List Share → List ℕ
denominators terms = map (λ t. denominator t.0) terms

-- no denominator is 0
abbrev pub AreSome : List Share → Type 0
AreSome terms = AllByRecursion (λ t. 0 < denominator t.0) terms

divide_times : (ds : List ℕ) (d m : ℕ) → AllDivide ds m → AllDivide ds (d * m)
divide_times [] d m all = tt
divide_times (e ∷ ds) d m all = (dvd-mul_left_of_dvd e all.0 d, divide_times ds d m all.1)

-- the product is a common multiple
pub product_common : (terms : List Share) → AllDivide (denominators terms) (product terms)
product_common [] = tt
product_common (t ∷ terms) = (dvd-mul_right (denominator t.0) (product terms), divide_times (denominators terms) (denominator t.0) (product terms) (product_common terms))

times_some : (a b : ℕ) → 0 < a → 0 < b → 0 < a * b
times_some zero b x y = absurd (omega (arith, x))
times_some a zero x y = absurd (omega (arith, y))
times_some (suc a) (suc b) x y = grind arith

pub product_some : (terms : List Share) → AreSome terms → 0 < product terms
product_some [] some = omega arith
product_some (t ∷ terms) some = times_some (denominator t.0) (product terms) some.0 (product_some terms some.1)

scaled_part : (n m k d : ℕ) → 0 < d → d ∣ m → n * ((m * k) / d) ≡ (n * (m / d)) * k
scaled_part n m k d some divides =
    let whole : m * k ≡ ((m / d) * k) * d =
    ap (λ x. x * k) (sym (div-mul_cancel d divides)) ∙ mul_assoc (m / d) d k ∙ ap (λ x. (m / d) * x) (mul_comm d k) ∙ sym (mul_assoc (m / d) k d) in
    ap (λ x. n * x) (div-eq_of_eq-mul_left some whole) ∙ sym (mul_assoc n (m / d) k)

-- the sum of a scaled whole
pub sum_scaled : (terms : List Share) (m k : ℕ) → AreSome terms → AllDivide (denominators terms) m → sum_met (m * k) terms ≡ sum_met m terms * k
sum_scaled [] m k some all = omega arith
sum_scaled ((w, true) ∷ terms) m k some all =
    ap (λ x. x + sum_met (m * k) terms) (scaled_part (numerator w) m k (denominator w) some.0 all.0)
    ∙ ap (λ x. (numerator w * (m / denominator w)) * k + x) (sum_scaled terms m k some.1 all.1)
    ∙ sym (add-mul (numerator w * (m / denominator w)) (sum_met m terms) k)
sum_scaled ((w, false) ∷ terms) m k some all =
    omega (arith, sum_scaled terms m k some.1 all.1, add-mul 0 (sum_met m terms) k)

less_scaled : (a b k : ℕ) → 0 < k → a * k ≤ b * k → a ≤ b
less_scaled a b k some h = elim (cases_lt b a) [
  | inl less ↦ (let up : (b + 1) * k ≤ a * k = mul-le-mul_right k (omega (arith, less)) in absurd (omega (arith, some, h, up, add-mul b 1 k)))
  | inr enough ↦ enough
]

-- A common multiple that divides the product tells as well as the product whether the clause is met.
pub met_by : (terms : List Share) (m : ℕ) → AreSome terms → AllDivide (denominators terms) m → m ∣ product terms → (m ≤ sum_met m terms) ↔ (product terms ≤ sum_met (product terms) terms)
met_by terms m some all divides =
    let k = product terms / m in
    let whole : m * k ≡ product terms = mul_comm m k ∙ div-mul_cancel m divides in
    let sums : sum_met (product terms) terms ≡ sum_met m terms * k = ap (λ p. sum_met p terms) (sym whole) ∙ sum_scaled terms m k some all in
    let k_some : 0 < k = factor_some k m (product terms) (sym whole ∙ mul_comm m k) (product_some terms some) in (
      λ enough. subst (λ s. product terms ≤ s) (sym sums) (subst (λ p. p ≤ sum_met m terms * k) whole (mul-le-mul_right k enough)),
      λ met. less_scaled m (sum_met m terms) k k_some (subst (λ p. p ≤ sum_met m terms * k) (sym whole) (subst (λ s. product terms ≤ s) sums met)),
    )

denominators-all_met : (weights : List Weight) → denominators (all_met weights) ≡ map denominator weights
denominators-all_met [] = refl
denominators-all_met (w ∷ weights) = ap (λ l. denominator w ∷ l) (denominators-all_met weights)

some_denominator : (w : Weight) → IsWeight w → 0 < denominator w
some_denominator Zero is = omega arith
some_denominator One is = omega arith
some_denominator (Part n d) is = omega (arith, is)

some_all_met : (weights : List Weight) → AllByRecursion IsWeight weights → AreSome (all_met weights)
some_all_met [] all = tt
some_all_met (w ∷ weights) all = (some_denominator w all.0, some_all_met weights all.1)

-- tests of orders that stand together are the same
same_tests : (a b c d : ℕ) → (a ≤ b) ↔ (c ≤ d) → leb a b ≡ leb c d
same_tests a b c d both = elim (cases_Bool (leb a b)) [
  | inl t ↦ t ∙ sym (le-leb c d (both.0 (leb-true a b t)))
  | inr f ↦ elim (cases_Bool (leb c d)) [
    | inl t ↦ absurd (false≢true (sym f ∙ le-leb a b (both.1 (leb-true c d t))))
    | inr g ↦ f ∙ sym g
  ]
]

-- the least common multiple tells as well as the product whether the weights that are met reach a whole
pub tells : (shares : List Share) (weights : List Weight) (m : ℕ) → denominators shares ≡ map denominator weights → AreSome shares → IsLeastMultiple (map denominator weights) m → m ≤ 2 ^ 64
    → leb m (min (sum_met m shares) (2 ^ 128 - 1)) ≡ reach_whole shares
tells shares weights m same some least few =
    let by = met_by shares m some (subst (λ l. AllDivide l m) (sym same) least.common) (least.least (product shares) (subst (λ l. AllDivide l (product shares)) same (product_common shares))) in
    same_tests m (min (sum_met m shares) (2 ^ 128 - 1)) (product shares) (sum_met (product shares) shares) (λ enough. by.0 (omega (arith, enough)), λ met. omega (arith, by.1 met, few))

module _ {A : Type 0} (weight : A → Weight) (size : A → ℕ) (met : A → ℕ → List ℕ → Bool) (indices : List ℕ) where
  denominators-shares_at : (members : List A) (start : ℕ) → denominators (shares_at weight size met members start indices) ≡ map denominator (map weight members)
  denominators-shares_at [] start = refl
  denominators-shares_at (a ∷ members) start = ap (λ l. denominator (weight a) ∷ l) (denominators-shares_at members (start + size a))

  some_shares_at : (members : List A) (start : ℕ) → AllByRecursion IsWeight (map weight members) → AreSome (shares_at weight size met members start indices)
  some_shares_at [] start all = tt
  some_shares_at (a ∷ members) start all = (some_denominator (weight a) all.0, some_shares_at members (start + size a) all.1)

  pub met_at : (members : List A) (start m : ℕ) → AllByRecursion IsWeight (map weight members) → IsLeastMultiple (map denominator (map weight members)) m → m ≤ 2 ^ 64
      → leb m (min (sum_met m (shares_at weight size met members start indices)) (2 ^ 128 - 1)) ≡ reach_whole (shares_at weight size met members start indices)
  met_at members start m all least few = tells _ (map weight members) m (denominators-shares_at members start) (some_shares_at members start all) least few

pub met_all : (weights : List Weight) (m : ℕ) → AllByRecursion IsWeight weights → IsLeastMultiple (map denominator weights) m → m ≤ 2 ^ 64
    → leb m (min (sum_met m (all_met weights)) (2 ^ 128 - 1)) ≡ reach_whole (all_met weights)
met_all weights m all least few = tells (all_met weights) weights m (denominators-all_met weights) (some_all_met weights all) least few

pub not_both : (weights : List Weight) → IsFine weights → IsTooFine weights → ⊥
not_both weights fine too = too fine.0 fine.1 fine.2 fine.3
