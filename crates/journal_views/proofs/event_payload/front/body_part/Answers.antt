use Rattle.std.proofs.Common.{◌∙◌}
use Rattle.journal_views.proofs.EventPayloadLemmas.Openings.{opens}
use Rattle.journal_views.proofs.event_payload.front.body_part.Goals as goal

pub sized_front-requires : goal.sized_front-requires
sized_front-requires c =
    let at = opens c.args.payload.now c.requires.body c.requires.rest c.requires.form c.requires.parted in
    record { long = at.long; digits = at.digits; within = at.within }

pub returns : goal.returns
returns c = λ body rest form parted. c.sized_front.ensures ∙ (opens c.args.payload.now body rest form parted).front
