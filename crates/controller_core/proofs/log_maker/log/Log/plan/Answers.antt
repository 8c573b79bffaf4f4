use Rattle.std.proofs.Common.{◌<◌, arith, sym, ap, ◌∙◌}
use Rattle.controller_core.specs.LogMaker.Plans.{sealed, inception, rotation, event_at}
use Rattle.controller_core.proofs.LogMakerLemmas.Chain.{event_at-inception, event_at-rotation, event_at-interaction, becomes}
use Rattle.controller_core.proofs.log_maker.log.Log.plan.Goals as goal

pub returns-then-next-eq0-clause-event : goal.returns-then-next-eq0-clause-event
returns-then-next-eq0-clause-event c =
    let next = c.args.self.now.next in
    becomes c.inception.result (inception next.seed next.log) (event_at next.seed next.log next.sn)
    (ap (event_at next.seed next.log) c.if-next-eq0.true ∙ event_at-inception next.seed next.log) c.inception.ensures.plan

pub returns-then-not-is_rotation-clause-event : goal.returns-then-not-is_rotation-clause-event
returns-then-not-is_rotation-clause-event c =
    let log = c.args.self.now in
    let later : 0 < log.next.sn = omega arith in
    ap sealed c.interaction.ensures.plan
    ∙ sym (event_at-interaction log.next.seed log.next.log log.next.sn log.first log.prior later (sym c.is_rotation.ensures ∙ c.if-not-is_rotation.true) log.first_is log.prior_is)

pub returns-clause-event : goal.returns-clause-event
returns-clause-event c =
    let log = c.args.self.now in
    let later : 0 < log.next.sn = omega arith in
    becomes c.rotation.result (rotation log.next.seed log.next.log c.key_number-number.result log.next.sn log.first log.prior) (event_at log.next.seed log.next.log log.next.sn)
    (event_at-rotation log.next.seed log.next.log log.next.sn c.key_number-number.result log.first log.prior later (sym c.is_rotation.ensures ∙ c.if-not-is_rotation.false) c.key_number-number.ensures.number log.first_is log.prior_is)
    c.rotation.ensures.plan
