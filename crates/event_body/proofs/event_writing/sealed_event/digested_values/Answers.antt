use Rattle.std.proofs.Common.{◌∷◌, ap, ◌∙◌}
use Rattle.json_tree.specs.declared.tree.Tree.TheVariants.{Str}
use Rattle.said_digest.specs.Replaced.{placeholder}
use Rattle.event_body.specs.EventBody.Spelling.{further_values}
use Rattle.event_body.proofs.event_writing.sealed_event.digested_values.Goals as goal

pub returns : goal.returns
returns c =
    let further = further_values c.args.event.now in
    c.in_ok-values.ensures ∙ ap (λ t. t ∷ c.in_ok-prefix.prefix ∷ further) c.in_ok-said.ensures ∙ ap (λ t. Str placeholder ∷ t ∷ further) c.in_ok-prefix.ensures
