use Rattle.std.proofs.Common.{take}
use Rattle.std.specs.List.{AllByRecursion}
use Rattle.cesr_codes.proofs.spelled.all_in_range.Given as goal

-- those so far are in the range of their type
abbrev pub invariant-loop-value : goal.invariant-loop-value
invariant-loop-value g l = AllByRecursion g.P.Spelled.is_valid (take l.value-index l.values)
