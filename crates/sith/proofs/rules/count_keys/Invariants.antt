use Rattle.std.proofs.Common.{◌≡◌, ◌≤◌}
use Rattle.sith.specs.Rules.{count_below}
use Rattle.sith.proofs.rules.count_keys.Given as goal

-- the keys so far
abbrev pub invariant-loop-index : goal.invariant-loop-index
invariant-loop-index l = record {
  count : l.count ≡ count_below l.index l.indices;
  most : l.count ≤ l.index;
}
