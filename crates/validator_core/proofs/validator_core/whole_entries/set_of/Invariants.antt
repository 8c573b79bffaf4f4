use Rattle.std.proofs.Common.{ℕ, take}
use Rattle.std.specs.Prelude.{◌↔◌, Contains}
use Rattle.std.specs.List.Sorted.{IsStrictlySortedBy}
use Rattle.std.specs.Ordering.{nat_cmp}
use Rattle.validator_core.proofs.validator_core.whole_entries.set_of.Given as goal

abbrev pub invariant-loop-number : goal.invariant-loop-number
invariant-loop-number l = record {
  all : (n : ℕ) → Contains l.due.keys n ↔ Contains (take l.number-index l.numbers) n;
  rising : IsStrictlySortedBy nat_cmp l.due.keys;
}
