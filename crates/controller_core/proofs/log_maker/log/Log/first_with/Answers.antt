use Rattle.std.proofs.Common.{◌<◌, arith, sym, ap, ◌∙◌}
use Rattle.event_body.specs.EventBody.Events.{said_of}
use Rattle.controller_core.specs.LogMaker.Plans.{event_at}
use Rattle.controller_core.proofs.LogMakerLemmas.Chain.{first_before-more, first_before-later, event_at-first}
use Rattle.controller_core.proofs.log_maker.log.Log.first_with.Goals as goal

pub returns-then-self-eq0 : goal.returns-then-self-eq0
returns-then-self-eq0 c =
    let next = c.args.self.now.next in
    c.requires ∙ ap (λ sn. said_of (event_at next.seed next.log sn)) c.if-self-eq0.true ∙ ap said_of (event_at-first next.seed next.log)
    ∙ sym (first_before-more next.seed next.log next.sn)

pub returns-else-self-eq0 : goal.returns-else-self-eq0
returns-else-self-eq0 c =
    let log = c.args.self.now in
    let later : 0 < log.next.sn = omega arith in
    log.first_is ∙ first_before-later log.next.seed log.next.log log.next.sn later ∙ sym (first_before-more log.next.seed log.next.log log.next.sn)
