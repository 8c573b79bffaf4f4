use Rattle.std.proofs.Common.{length, ap, arith}
use Rattle.controller_core.specs.LogMaker.Plans.{event_text}
use Rattle.controller_core.proofs.LogMakerLemmas.Lengths.{few_bytes}
use Rattle.controller_core.proofs.log_maker.message.next_body.Goals as goal

pub sealed_body-body-requires-clause-short : goal.sealed_body-body-requires-clause-short
sealed_body-body-requires-clause-short c =
    let next = c.args.log.now.next in
    omega (arith, ap (λ event. length (event_text event)) c.in_ok-plan.ensures.event, few_bytes next.seed next.log next.sn)
