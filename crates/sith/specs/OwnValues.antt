-- What holds of the value of each threshold, as the types of its numbers have it.
use Rattle.std.specs.Prelude.{◌≡◌, ◌<◌, ◌^◌, ◌⊎◌, ℕ, List}
use Rattle.std.specs.List.{AllByRecursion}
use Rattle.json_tree.specs.declared.tree.Tree.{Tree}
use Rattle.json_tree.specs.declared.tree.Tree.TheVariants.{Str, List as TreeList}
use Rattle.json_tree.specs.Spelling.{IsJson}
use Rattle.sith.specs.declared.weight.Weight.{Weight}
use Rattle.sith.specs.declared.weight.Weight.TheVariants.{Zero, One, Part}
use Rattle.sith.specs.declared.term.Term.{Term}
use Rattle.sith.specs.declared.threshold.Threshold.{Threshold}
use Rattle.sith.specs.declared.threshold.Threshold.TheVariants.{Count, Flat, Nested}
use Rattle.sith.specs.Rules.{IsReadFor}
use Rattle.sith.specs.Terms.{weights_in}
use Rattle.sith.specs.Thresholds.{Spells, threshold_value}

-- numbers of 32 and of 64 bits
abbrev pub IsTypedWeight : Weight → Type 0
IsTypedWeight Zero = Unit {0}
IsTypedWeight One = Unit {0}
IsTypedWeight (Part n d) = (n < 2 ^ 32) × (d < 2 ^ 32)

abbrev pub IsTypedTerm : Term → Type 0
IsTypedTerm term = AllByRecursion IsTypedWeight (weights_in term)

abbrev pub IsTypedThreshold : Threshold → Type 0
IsTypedThreshold (Count n) = n < 2 ^ 64
IsTypedThreshold (Flat terms) = AllByRecursion IsTypedTerm terms
IsTypedThreshold (Nested clauses) = AllByRecursion (AllByRecursion IsTypedTerm) clauses

-- The value is a string or a list of JSON, and that of no other threshold that is read for so many keys.
pub record HasOwnValue (threshold : Threshold) : Type 0 where
  pub json : IsJson (threshold_value threshold)
  pub form : ((text : List ℕ) × (threshold_value threshold ≡ Str text)) ⊎ ((values : List Tree) × (threshold_value threshold ≡ TreeList values))
  pub one : (other : Threshold) (keys : ℕ) → Spells other (threshold_value threshold) → IsReadFor other keys → other ≡ threshold
