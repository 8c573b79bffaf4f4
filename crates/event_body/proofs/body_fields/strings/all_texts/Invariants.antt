use Rattle.std.proofs.Common.{◌≡◌, take, map}
use Rattle.json_tree.specs.declared.tree.Tree.TheVariants.{Str}
use Rattle.event_body.proofs.body_fields.strings.all_texts.Given as goal

-- the texts of the values so far
abbrev pub invariant-loop-value : goal.invariant-loop-value
invariant-loop-value l = take l.value-index l.values ≡ map (λ text. Str text) l.texts.items
