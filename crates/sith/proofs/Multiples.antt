-- Least common multiples of lists.
use Rattle.std.proofs.Common.{◌≡◌, ℕ, zero, suc, ◌+◌, ◌<◌, ◌^◌, List, [], ◌∷◌, ◌++◌, length, take, map, get_or, sym, ap, subst, ◌∙◌, arith}
use Prim.Native.Nat.{◌∣◌}
use native.Mathlib.Nat.{dvd_trans, one-dvd, le_of_dvd}
use Rattle.std.specs.List.{AllByRecursion}
use Rattle.std.proofs.lemmas.List.{map-append}
use Rattle.sith.specs.declared.weight.Weight.{Weight}
use Rattle.sith.specs.Weights.{IsWeight, denominator}
use Rattle.sith.specs.Divisors.{AllDivide, IsLeastMultiple, IsMultipleOfBoth}
use Rattle.sith.specs.Clauses.{IsTooFine}
use Rattle.sith.proofs.Lists.{taken}

divide_more : (ds : List ℕ) (m n : ℕ) → AllDivide ds m → m ∣ n → AllDivide ds n
divide_more [] m n all divides = tt
divide_more (d ∷ ds) m n all divides = (dvd_trans d all.0 divides, divide_more ds m n all.1 divides)

divide_push : (ds : List ℕ) (d m : ℕ) → AllDivide ds m → d ∣ m → AllDivide (ds ++ d ∷ []) m
divide_push [] d m all here = (here, tt)
divide_push (e ∷ ds) d m all here = (all.0, divide_push ds d m all.1 here)

divide_front : (ds : List ℕ) (d m : ℕ) → AllDivide (ds ++ d ∷ []) m → AllDivide ds m × (d ∣ m)
divide_front [] d m all = (tt, all.0)
divide_front (e ∷ ds) d m all = let rest = divide_front ds d m all.1 in ((all.0, rest.0), rest.1)

pub least_of_none : IsLeastMultiple [] 1
least_of_none = record { common = tt; least = λ m all. one-dvd m }

pub least_push : (ds : List ℕ) (d a m : ℕ) → IsLeastMultiple ds a → IsMultipleOfBoth a d m → IsLeastMultiple (ds ++ d ∷ []) m
least_push ds d a m least both = record {
  common = divide_push ds d m (divide_more ds a m least.common both.one) both.other;
  least = λ n all. let split = divide_front ds d n all in both.least n (least.least n split.0) split.1;
}

module _ {A : Type 0} (weight : A → Weight) where
  -- the denominators of the weights of these
  abbrev pub denominators_of : List A → List ℕ
  denominators_of members = map denominator (map weight members)

  -- one weight more
  pub next_least : (members : List A) (i : ℕ) (member : A) (w : Weight) (d a m : ℕ) → i < length members → member ≡ get_or members i member → w ≡ weight member → d ≡ denominator w
      → IsLeastMultiple (denominators_of (take i members)) a → IsMultipleOfBoth a d m → IsLeastMultiple (denominators_of (take (i + 1) members)) m
  next_least members i member w d a m within is weighed divides least both =
      let more = ap denominators_of (taken members i member within is) ∙ ap (map denominator) (map-append weight (take i members) (member ∷ [])) ∙ map-append denominator (map weight (take i members)) (weight member ∷ []) in
      subst (λ l. IsLeastMultiple l m) (sym more)
      (least_push (denominators_of (take i members)) (denominator (weight member)) a m least (subst (λ e. IsMultipleOfBoth a e m) (divides ∙ ap denominator weighed) both))

  divide_taken : (members : List A) (i m : ℕ) → AllDivide (denominators_of members) m → AllDivide (denominators_of (take i members)) m
  divide_taken [] zero m all = tt
  divide_taken [] (suc i) m all = tt
  divide_taken (a ∷ members) zero m all = tt
  divide_taken (a ∷ members) (suc i) m all = (all.0, divide_taken members i m all.1)

  -- a multiple of some of them that is too great is one of all of them
  pub too_fine : (members : List A) (i m : ℕ) → IsLeastMultiple (denominators_of (take i members)) m → 2 ^ 64 < m → IsTooFine (map weight members)
  too_fine members i m least over n some most all =
      omega (arith, le_of_dvd some (least.least n (divide_taken members i n all)))

  pub weight_at : (members : List A) (i : ℕ) (member : A) (w : Weight) → AllByRecursion IsWeight (map weight members) → i < length members → member ≡ get_or members i member → w ≡ weight member → IsWeight w
  weight_at [] i member w all within is weighed = absurd (omega arith)
  weight_at (a ∷ members) zero member w all within is weighed = subst IsWeight (sym (weighed ∙ ap weight is)) all.0
  weight_at (a ∷ members) (suc i) member w all within is weighed = weight_at members i member w all.1 (omega arith) is weighed
