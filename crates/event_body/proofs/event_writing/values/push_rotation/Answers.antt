use Rattle.std.proofs.Common.{◌∷◌, ◌++◌, [], ap, ◌∙◌}
use Rattle.json_tree.specs.declared.tree.Tree.TheVariants.{List as TreeList}
use Rattle.event_body.proofs.EventWritingLemmas.Pushes.{added}
use Rattle.event_body.proofs.event_writing.values.push_rotation.Goals as goal

pub returns : goal.returns
returns c =
    added _ _ _ _ _ _ _ _ _ _ _ c.in_ok-push_place.ensures c.in_ok-push_keys.ensures c.in_ok-push_next.ensures c.in_ok-push_changes.ensures
    (c.in_ok-push.ensures.items ∙ ap (λ xs. c.push_changes.new.values.items ++ TreeList xs ∷ []) c.in_ok-copy.ensures)
