use Rattle.std.proofs.Common.{◌<◌, refl, sym, arith, ◌∙◌}
use Rattle.controller_core.specs.LogMaker.Making.{rest_text}
use Rattle.controller_core.proofs.LogMakerLemmas.Left.{first_log, no_stream, nothing}
use Rattle.controller_core.proofs.log_maker.rest.Rest.new.Goals as goal

pub returns-then-logs-eq0 : goal.returns-then-logs-eq0
unfolding rest_text
returns-then-logs-eq0 c =
    let next = c.new-log.result.next in
    nothing next.seed next.log next.sn c.args.events 0 0 refl refl ∙ sym (no_stream c.args.seed c.args.logs c.args.events c.then-logs-eq0.either)

pub returns : goal.returns
unfolding rest_text
returns c =
    let next = c.new-log.result.next in
    let some : 0 < c.args.logs = omega arith in
    first_log c.args.seed c.args.events next.seed next.log next.sn c.new-log.ensures.of.0 c.new-log.ensures.none c.args.logs c.new-log.ensures.of.1 some
