use Rattle.std.proofs.Common.{take}
use Rattle.std.specs.List.{flat_map}
use Rattle.sith.specs.Terms.{sums_of}
use Rattle.sith.specs.Rules.{IsSumsFault}
use Rattle.sith.proofs.rules.clauses_fault.Given as goal

-- the fault of the clauses so far
abbrev pub invariant-loop-clause : goal.invariant-loop-clause
invariant-loop-clause l = IsSumsFault l.fault (flat_map sums_of (take l.clause-index l.clauses))
