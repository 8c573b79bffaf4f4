use Rattle.std.proofs.Common.{◌≡◌, take, min}
use Rattle.sith.specs.Thresholds.{weight_count}
use Rattle.sith.proofs.rules.total.Given as goal

-- the indices so far
abbrev pub invariant-loop-clause : goal.invariant-loop-clause
invariant-loop-clause l = l.sum ≡ min (weight_count (take l.clause-index l.clauses)) 65536
