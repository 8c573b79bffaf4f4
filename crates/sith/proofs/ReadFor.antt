-- What a reading knows of the threshold.
use Rattle.std.proofs.Common.{◌≡◌, ◌≢◌, ℕ, ◌≤◌, List, [], ◌∷◌, ◌++◌, map, refl, arith}
use Rattle.std.specs.Prelude.{Option, Some, None, IfSome, IfNone}
use Rattle.std.specs.List.{AllByRecursion, flat_map}
use Rattle.json_tree.specs.declared.tree.Tree.{Tree}
use Rattle.sith.specs.declared.weight.Weight.{Weight}
use Rattle.sith.specs.declared.term.Term.{Term}
use Rattle.sith.specs.declared.term.Term.TheVariants.{Single, Group}
use Rattle.sith.specs.declared.threshold.Threshold.{Threshold}
use Rattle.sith.specs.declared.threshold.Threshold.TheVariants.{Count, Flat, Nested}
use Rattle.sith.specs.declared.sith_fault.SithFault.{SithFault}
use Rattle.sith.specs.declared.sith_fault.SithFault.TheVariants.{Form, BadWeight, OutOfRange, TooFine, Unreachable, OutOfMemory}
use Rattle.sith.specs.Weights.{IsWeight}
use Rattle.sith.specs.Clauses.{IsFine, IsTooFine, IsReachable, AreRead}
use Rattle.sith.specs.Terms.{outer_weight, inner_of, sums_of}
use Rattle.sith.specs.Thresholds.{clause_weights, weight_count, Spells}
use Rattle.sith.specs.Rules.{clauses_of, all_sums, IsInRange, IsReadFor, IsRuleFault, IsSumsFault, graver}
use Rattle.sith.specs.Tests.{are_met, satisfied}
use Rattle.sith.proofs.Lists.{All-append, All-parts, Any-front, Any-behind}

outer_weights : (terms : List Term) → AllByRecursion IsWeight (clause_weights terms) → AllByRecursion IsWeight (map outer_weight terms)
outer_weights [] all = tt
outer_weights (Single weight ∷ terms) all = (all.0, outer_weights terms all.1)
outer_weights (Group weight inner ∷ terms) all = (all.0, outer_weights terms (All-parts IsWeight inner (clause_weights terms) all.1).1)

inner_weights : (terms : List Term) → AllByRecursion IsWeight (clause_weights terms) → AllByRecursion (AllByRecursion IsWeight) (flat_map inner_of terms)
inner_weights [] all = tt
inner_weights (Single weight ∷ terms) all = inner_weights terms all.1
inner_weights (Group weight inner ∷ terms) all = let parts = All-parts IsWeight inner (clause_weights terms) all.1 in (parts.0, inner_weights terms parts.1)

clause_sums : (terms : List Term) → AllByRecursion IsWeight (clause_weights terms) → AllByRecursion (AllByRecursion IsWeight) (sums_of terms)
clause_sums terms all = (outer_weights terms all, inner_weights terms all)

clauses_sums : (clauses : List (List Term)) → AllByRecursion IsWeight (flat_map clause_weights clauses) → AllByRecursion (AllByRecursion IsWeight) (flat_map sums_of clauses)
clauses_sums [] all = tt
clauses_sums (c ∷ clauses) all =
    let parts = All-parts IsWeight (clause_weights c) (flat_map clause_weights clauses) all in
    All-append (AllByRecursion IsWeight) (sums_of c) (flat_map sums_of clauses) (clause_sums c parts.0) (clauses_sums clauses parts.1)

-- what is spelled has weights
pub spelled_weights : (threshold : Threshold) (tree : Tree) → Spells threshold tree → AllByRecursion (AllByRecursion IsWeight) (all_sums threshold)
spelled_weights (Count n) tree spells = tt
spelled_weights (Flat terms) tree spells = All-append (AllByRecursion IsWeight) (sums_of terms) [] (clause_sums terms spells.1) tt
spelled_weights (Nested clauses) tree spells = clauses_sums clauses spells.0

pub read_sums : (sums : List (List Weight)) → AllByRecursion (AllByRecursion IsWeight) sums → AllByRecursion IsFine sums → AllByRecursion IsReachable sums → AllByRecursion AreRead sums
read_sums [] weights fine reachable = tt
read_sums (s ∷ sums) weights fine reachable = ((weights.0, fine.0, reachable.0), read_sums sums weights.1 fine.1 reachable.1)

-- there are no more single and inner weights than keys
pub few_weights : (threshold : Threshold) (keys : ℕ) → IsInRange threshold keys → weight_count (clauses_of threshold) ≤ keys
few_weights (Count n) keys range = omega arith
few_weights (Flat terms) keys range = omega (arith, range)
few_weights (Nested clauses) keys range = omega (arith, range.1)

-- the fault of lists of weights, from those of two parts of them
pub graver_is : (one other : Option SithFault) (xs ys : List (List Weight)) → IsSumsFault one xs → IsSumsFault other ys → IsSumsFault (graver one other) (xs ++ ys)
graver_is None None xs ys a b = (All-append IsFine xs ys a.0 b.0, All-append IsReachable xs ys a.1 b.1)
graver_is None (Some TooFine) xs ys a b = Any-behind IsTooFine xs ys b
graver_is None (Some Unreachable) xs ys a b = (All-append IsFine xs ys a.0 b.0, Any-behind (λ weights. ¬ IsReachable weights) xs ys b.1)
graver_is None (Some Form) xs ys a b = absurd b
graver_is None (Some (BadWeight n)) xs ys a b = absurd b
graver_is None (Some OutOfRange) xs ys a b = absurd b
graver_is None (Some OutOfMemory) xs ys a b = absurd b
graver_is (Some TooFine) other xs ys a b = Any-front IsTooFine xs ys a
graver_is (Some Unreachable) None xs ys a b = (All-append IsFine xs ys a.0 b.0, Any-front (λ weights. ¬ IsReachable weights) xs ys a.1)
graver_is (Some Unreachable) (Some TooFine) xs ys a b = Any-behind IsTooFine xs ys b
graver_is (Some Unreachable) (Some Unreachable) xs ys a b = (All-append IsFine xs ys a.0 b.0, Any-front (λ weights. ¬ IsReachable weights) xs ys a.1)
graver_is (Some Unreachable) (Some Form) xs ys a b = absurd b
graver_is (Some Unreachable) (Some (BadWeight n)) xs ys a b = absurd b
graver_is (Some Unreachable) (Some OutOfRange) xs ys a b = absurd b
graver_is (Some Unreachable) (Some OutOfMemory) xs ys a b = absurd b
graver_is (Some Form) other xs ys a b = absurd a
graver_is (Some (BadWeight n)) other xs ys a b = absurd a
graver_is (Some OutOfRange) other xs ys a b = absurd a
graver_is (Some OutOfMemory) other xs ys a b = absurd a

-- a list with a clause is met where all its clauses are
pub nested_met : (clauses : List (List Term)) (keys : ℕ) (indices : List ℕ) → clauses ≢ [] → are_met clauses 0 indices ≡ satisfied (Nested clauses) keys indices
unfolding satisfied
nested_met [] keys indices some = absurd (some refl)
nested_met (c ∷ clauses) keys indices some = refl

module _ (threshold : Threshold) (keys : ℕ) (range : IsInRange threshold keys) where
  -- weights without a fault are read
  pub none_is : (fault : Option SithFault) → AllByRecursion (AllByRecursion IsWeight) (all_sums threshold) → IsSumsFault fault (all_sums threshold) → IfNone fault (IsReadFor threshold keys)
  none_is None weights good = (range, read_sums (all_sums threshold) weights good.0 good.1)
  none_is (Some fault) weights bad = tt

  -- their fault is that of the threshold
  pub fault_is : (fault : Option SithFault) → IsSumsFault fault (all_sums threshold) → IfSome fault (λ fault. IsRuleFault fault threshold keys)
  fault_is None good = tt
  fault_is (Some TooFine) bad = (range, bad)
  fault_is (Some Unreachable) bad = (range, bad)
  fault_is (Some Form) bad = absurd bad
  fault_is (Some (BadWeight n)) bad = absurd bad
  fault_is (Some OutOfRange) bad = absurd bad
  fault_is (Some OutOfMemory) bad = absurd bad
