use Rattle.std.proofs.Common.{take}
use Rattle.std.specs.List.{AllByRecursion}
use Rattle.sith.specs.OwnValues.{IsTypedWeight}
use Rattle.sith.proofs.own_value.weights.Given as goal

-- those so far are in the ranges of their types
abbrev pub invariant-loop-found : goal.invariant-loop-found
invariant-loop-found l = AllByRecursion IsTypedWeight (take l.found-index l.weights)
