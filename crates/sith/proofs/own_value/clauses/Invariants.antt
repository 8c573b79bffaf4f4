use Rattle.std.proofs.Common.{take}
use Rattle.std.specs.List.{AllByRecursion}
use Rattle.sith.specs.OwnValues.{IsTypedTerm}
use Rattle.sith.proofs.own_value.clauses.Given as goal

-- those so far are in the ranges of their types
abbrev pub invariant-loop-found : goal.invariant-loop-found
invariant-loop-found l = AllByRecursion (AllByRecursion IsTypedTerm) (take l.found-index l.clauses)
