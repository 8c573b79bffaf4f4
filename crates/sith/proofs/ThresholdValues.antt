-- What spells a threshold is its value.
use Rattle.std.proofs.Common.{◌≡◌, ℕ, ◌^◌, ◌<◌, ◌≤◌, List, length, ap, ◌∙◌, arith}
use Rattle.std.proofs.Math.Nat.{pow-le-pow_right}
use Rattle.lists.specs.KeriSpecs.Hex.{IsHexNumber, hex_value}
use Rattle.json_tree.specs.declared.tree.Tree.{Tree}
use Rattle.json_tree.specs.declared.tree.Tree.TheVariants.{Str}
use Rattle.sith.specs.declared.threshold.Threshold.{Threshold}
use Rattle.sith.specs.declared.threshold.Threshold.TheVariants.{Count, Flat, Nested}
use Rattle.sith.specs.Rules.{IsInRange}
use Rattle.sith.specs.Thresholds.{Spells, threshold_value}
use Rattle.sith.proofs.Digits.{printed, value_low}

count_spelled : (n : ℕ) (tree : Tree) (spells : Spells (Count n) tree) → hex_value spells.0 < 2 ^ 64 → tree ≡ threshold_value (Count n)
count_spelled n tree spells few = spells.1 ∙ ap Str (printed n spells.0 (omega (arith, spells.3, few)) (spells.2, omega (arith, spells.3, few)))

-- what spells a threshold is its value, where a number has at most 16 digits
pub value_of_few_digits : (threshold : Threshold) (tree : Tree) → Spells threshold tree → ((digits : List ℕ) → tree ≡ Str digits → IsHexNumber digits → length digits ≤ 16) → tree ≡ threshold_value threshold
value_of_few_digits (Count n) tree spells few =
    let powers : 16 ^ length spells.0 ≤ 16 ^ 16 = pow-le-pow_right (omega arith) {i = length spells.0} {j = 16} (few spells.0 spells.1 spells.2) in
    count_spelled n tree spells (omega (arith, powers, value_low spells.0 spells.2.0))
value_of_few_digits (Flat terms) tree spells few = spells.2
value_of_few_digits (Nested clauses) tree spells few = spells.1

-- what spells a threshold of so many keys is its value
pub value_of_read : (threshold : Threshold) (tree : Tree) (keys : ℕ) → Spells threshold tree → IsInRange threshold keys → keys ≤ 65535 → tree ≡ threshold_value threshold
value_of_read (Count n) tree keys spells range few = count_spelled n tree spells (omega (arith, spells.3, range.0, few))
value_of_read (Flat terms) tree keys spells range few = spells.2
value_of_read (Nested clauses) tree keys spells range few = spells.1
