use Rattle.std.proofs.Common.{◌≡◌, map, take}
use Rattle.sith.specs.Thresholds.{clause_value}
use Rattle.sith.proofs.threshold_value.clauses_tree.Given as goal

-- the values of the clauses so far
abbrev pub invariant-loop-clause : goal.invariant-loop-clause
invariant-loop-clause l = l.lists.items ≡ map clause_value (take l.clause-index l.clauses)
