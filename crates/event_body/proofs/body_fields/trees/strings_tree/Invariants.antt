use Rattle.std.proofs.Common.{◌≡◌, take, map}
use Rattle.json_tree.specs.declared.tree.Tree.TheVariants.{Str}
use Rattle.event_body.proofs.body_fields.trees.strings_tree.Given as goal

-- the strings so far
abbrev pub invariant-loop-text : goal.invariant-loop-text
invariant-loop-text l = l.values.items ≡ map (λ text. Str text) (take l.text-index l.text-items)
