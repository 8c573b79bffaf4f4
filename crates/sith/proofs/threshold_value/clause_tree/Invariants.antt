use Rattle.std.proofs.Common.{◌≡◌, map, take}
use Rattle.sith.specs.Thresholds.{term_value}
use Rattle.sith.proofs.threshold_value.clause_tree.Given as goal

-- the values of the terms so far
abbrev pub invariant-loop-term : goal.invariant-loop-term
invariant-loop-term l = l.trees.items ≡ map term_value (take l.term-index l.terms)
