use Rattle.std.proofs.Common.{◌≡◌, take, map}
use Rattle.json_tree.specs.declared.tree.Tree.TheVariants.{Str}
use Rattle.event_body.proofs.body_fields.trees.list_tree.Given as goal

-- the strings so far
abbrev pub invariant-loop-primitive : goal.invariant-loop-primitive
invariant-loop-primitive g l = l.values.items ≡ map (λ p. Str (g.P.Spelled.spelling p)) (take l.primitive-index l.primitives)
