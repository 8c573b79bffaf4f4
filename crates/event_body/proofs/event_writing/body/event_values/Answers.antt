use Rattle.std.proofs.Common.{◌∷◌, ap, ◌∙◌}
use Rattle.event_body.specs.BodyFields.Forms.{digest_value, prefix_value}
use Rattle.event_body.specs.EventBody.Events.{said_of}
use Rattle.event_body.specs.EventBody.Spelling.{further_values}
use Rattle.event_body.proofs.event_writing.body.event_values.Goals as goal

pub returns : goal.returns
returns c =
    let further = further_values c.args.event.now in
    c.in_ok-values.ensures
    ∙ ap (λ t. t ∷ c.in_ok-prefix.prefix ∷ further) (c.in_ok-said.ensures ∙ ap digest_value c.said.ensures)
    ∙ ap (λ t. digest_value (said_of c.args.event.now) ∷ t ∷ further) (c.in_ok-prefix.ensures ∙ ap prefix_value c.prefix.ensures)
