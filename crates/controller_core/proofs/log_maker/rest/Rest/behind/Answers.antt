use Rattle.controller_core.specs.LogMaker.Making.{rest_text}
use Rattle.controller_core.proofs.LogMakerLemmas.Left.{next_message}
use Rattle.controller_core.proofs.log_maker.rest.Rest.behind.Goals as goal

pub returns : goal.returns
unfolding rest_text
returns c =
    let rest = c.args.self in
    let next = c.behind.result.next in
    next_message rest.log.next.seed rest.log.next.log rest.log.next.sn rest.events rest.events_left rest.logs_left next.seed next.log next.sn c.behind.ensures.of.0 c.behind.ensures.of.1 c.behind.ensures.sn c.requires.some
