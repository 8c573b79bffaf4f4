use Rattle.std.proofs.Common.{◌≡◌, ◌+◌, ◌≤◌, drop}
use Rattle.sith.specs.Thresholds.{weight_count}
use Rattle.sith.specs.Tests.{are_met}
use Rattle.sith.proofs.rules.are_met.Given as goal

-- those so far are met, and the clauses that are left tell, whose first index is this
abbrev pub invariant-loop-clause : goal.invariant-loop-clause
invariant-loop-clause l = record {
  tells : are_met (drop l.clause-index l.clauses) l.start l.indices ≡ are_met l.clauses 0 l.indices;
  few : l.start + weight_count (drop l.clause-index l.clauses) ≤ 65535;
}
