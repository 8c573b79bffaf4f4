use Rattle.std.proofs.Common.{ℕ, List, take}
use Rattle.std.specs.List.{AllByRecursion}
use Rattle.json_tree.specs.declared.tree.Tree.TheVariants.{Str}
use Rattle.sith.specs.Thresholds.{Writes}
use Rattle.sith.proofs.form.are_texts.Given as goal

-- the values so far are of the form
abbrev pub invariant-loop-tree : goal.invariant-loop-tree
invariant-loop-tree l = AllByRecursion (Writes (λ (text : List ℕ). Str text)) (take l.tree-index l.trees)
