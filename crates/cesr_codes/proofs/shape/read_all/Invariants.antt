use Rattle.std.proofs.Common.{◌≡◌, ◌++◌, map, take, drop}
use Rattle.cesr_codes.specs.Dates.{plain}
use Rattle.cesr_codes.proofs.shape.read_all.Given as goal

abbrev pub invariant-loop-c : goal.invariant-loop-c
invariant-loop-c l = l.text ≡ map plain (take l.c-index l.initial.text) ++ drop l.c-index l.initial.text
