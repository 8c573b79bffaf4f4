use Rattle.std.proofs.Common.{ℕ, List, [], ◌∷◌}
use Rattle.json_tree.specs.declared.tree.Tree.TheVariants.{Str}
use Rattle.sith.specs.declared.weight.Weight.{Weight}
use Rattle.sith.specs.Thresholds.{weight_value}
use Rattle.sith.proofs.FirstBad.{HasRead, single_same}
use Rattle.sith.proofs.reader.read_weights.Given as goal

-- what was read so far
abbrev pub invariant-loop-tree : goal.invariant-loop-tree
invariant-loop-tree l = HasRead weight_value (λ (t : List ℕ). Str t) (λ t. t ∷ []) (λ (w : Weight). w ∷ []) single_same l.weights.items l.tree-index l.trees l.initial.number l.number
