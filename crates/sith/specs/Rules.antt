-- Which thresholds are read for so many keys (KERI, weighted thresholds).
use Rattle.std.specs.Prelude.{◌≡◌, ◌≢◌, ◌≤◌, ◌+◌, ◌==◌, ◌⊎◌, ℕ, zero, suc, List, [], ◌∷◌, if◌then◌else◌, Option, Some, None}
use Rattle.std.specs.List.{list_any, AllByRecursion, flat_map}
use Rattle.json_tree.specs.declared.tree.Tree.{Tree}
use Rattle.sith.specs.declared.weight.Weight.{Weight}
use Rattle.sith.specs.declared.term.Term.{Term}
use Rattle.sith.specs.declared.threshold.Threshold.{Threshold}
use Rattle.sith.specs.declared.threshold.Threshold.TheVariants.{Count, Flat, Nested}
use Rattle.sith.specs.declared.sith_fault.SithFault.{SithFault}
use Rattle.sith.specs.declared.sith_fault.SithFault.TheVariants.{OutOfRange, TooFine, Unreachable}
use Rattle.sith.specs.Clauses.{IsFine, IsTooFine, IsReachable, AreRead}
use Rattle.sith.specs.Terms.{clause_size, sums_of}
use Rattle.sith.specs.Thresholds.{Spells, IsFormFault, weight_count}

-- one of these is so
abbrev pub AnyByRecursion : {A : Type 0} → (A → Type 0) → List A → Type 0
AnyByRecursion P [] = ⊥
AnyByRecursion P (x ∷ xs) = P x ⊎ AnyByRecursion P xs

-- the clauses of a threshold
abbrev pub clauses_of : Threshold → List (List Term)
clauses_of (Count n) = []
clauses_of (Flat terms) = terms ∷ []
clauses_of (Nested clauses) = clauses

-- the lists of weights that must sum to at least 1
abbrev pub all_sums : Threshold → List (List Weight)
all_sums threshold = flat_map sums_of (clauses_of threshold)

-- A number is from 1 to the number of keys, and 0 for no keys. There are as many single and inner weights as keys, and
-- there is a clause.
abbrev pub IsInRange : Threshold → ℕ → Type 0
IsInRange (Count n) keys = (n ≤ keys) × ((1 ≤ n) ⊎ (keys ≡ 0))
IsInRange (Flat terms) keys = clause_size terms ≡ keys
IsInRange (Nested clauses) keys = (clauses ≢ []) × (weight_count clauses ≡ keys)

-- the threshold is one that is read for so many keys
abbrev pub IsReadFor : Threshold → ℕ → Type 0
IsReadFor threshold keys = IsInRange threshold keys × AllByRecursion AreRead (all_sums threshold)

-- the first rule that weights break: their least common denominators, and then their sums
abbrev pub IsSumsFault : Option SithFault → List (List Weight) → Type 0
IsSumsFault None sums = AllByRecursion IsFine sums × AllByRecursion IsReachable sums
IsSumsFault (Some TooFine) sums = AnyByRecursion IsTooFine sums
IsSumsFault (Some Unreachable) sums = AllByRecursion IsFine sums × AnyByRecursion (λ weights. ¬ IsReachable weights) sums
IsSumsFault (Some _) sums = ⊥

-- the fault of lists of weights whose parts have these faults: weights that are too fine are named first
abbrev pub graver : Option SithFault → Option SithFault → Option SithFault
graver None other = other
graver (Some TooFine) other = Some TooFine
graver (Some fault) None = Some fault
graver (Some fault) (Some other) = Some other

-- the causes of a fault in a threshold of the right form, each tested where those before it don't stand
abbrev pub IsRuleFault : SithFault → Threshold → ℕ → Type 0
IsRuleFault OutOfRange threshold keys = ¬ IsInRange threshold keys
IsRuleFault fault threshold keys = IsInRange threshold keys × IsSumsFault (Some fault) (all_sums threshold)

-- the cause of a fault in reading the value for so many keys
abbrev pub IsFault : SithFault → Tree → ℕ → Type 0
IsFault fault tree keys = IsFormFault fault tree ⊎ ((threshold : Threshold) × Spells threshold tree × IsRuleFault fault threshold keys)

-- how many different numbers below the bound are among these
abbrev pub count_below : ℕ → List ℕ → ℕ
count_below zero indices = 0
count_below (suc bound) indices = (if list_any (λ i. i == bound) indices then 1 else 0) + count_below bound indices
