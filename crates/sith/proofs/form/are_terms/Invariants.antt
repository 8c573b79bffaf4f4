use Rattle.std.proofs.Common.{take}
use Rattle.std.specs.List.{AllByRecursion}
use Rattle.sith.specs.Thresholds.{Writes, written_value}
use Rattle.sith.proofs.form.are_terms.Given as goal

-- the values so far are of the form
abbrev pub invariant-loop-tree : goal.invariant-loop-tree
invariant-loop-tree l = AllByRecursion (Writes written_value) (take l.tree-index l.trees)
