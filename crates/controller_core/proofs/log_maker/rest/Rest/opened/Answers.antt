use Rattle.std.proofs.Common.{◌≡◌, ◌<◌, arith}
use Rattle.controller_core.specs.LogMaker.Making.{rest_text}
use Rattle.controller_core.proofs.LogMakerLemmas.Left.{next_log, nothing}
use Rattle.controller_core.proofs.log_maker.rest.Rest.opened.Goals as goal
use Rattle.controller_core.proofs.log_maker.rest.Rest.opened.Goals.{then-self-gt0-via-then-self-gt0, then-self-gt0-via-else-self-gt0+then-self-eq0}

pub returns-then-self-gt0-clause-end : goal.returns-then-self-gt0-clause-end
unfolding rest_text
returns-then-self-gt0-clause-end c = λ none.
    let rest = c.args.self in
    let no_logs : rest.logs_left ≡ 0 =
    elim c.then-self-gt0.branch [
      | then-self-gt0-via-then-self-gt0 w ↦ omega arith
      | then-self-gt0-via-else-self-gt0+then-self-eq0 w ↦ omega arith
    ] in
    nothing rest.log.next.seed rest.log.next.log rest.log.next.sn rest.events rest.events_left rest.logs_left none no_logs

pub returns-clause-same : goal.returns-clause-same
unfolding rest_text
returns-clause-same c =
    let rest = c.args.self in
    let next = c.new.result.next in
    let some : 0 < rest.logs_left = omega arith in
    next_log rest.log.next.seed rest.events next.seed next.log next.sn c.new.ensures.of.0 c.new.ensures.none rest.log.next.log rest.log.next.sn rest.events_left rest.logs_left c.new.ensures.of.1 c.if-self-gt0.false some
