use Rattle.std.proofs.Common.{sym, subst}
use Rattle.event_body.specs.BodyFields.Bodies.{IsBody}
use Rattle.event_body.proofs.EventBodyLemmas.Whole.{has_event}
use Rattle.event_body.proofs.event_body.body.judge_fields.Goals as goal

pub judge_event-requires-clause-has : goal.judge_event-requires-clause-has
judge_event-requires-clause-has c =
    has_event c.in-Ok.event c.args.fields.now.kind c.as_slice-values.result.now c.args.bytes.now c.requires.small
    (subst (λ values. IsBody c.args.fields.now.kind values c.args.bytes.now) (sym c.as_slice-values.ensures) c.requires.body)
    (c.are_few.ensures.0 c.if-not-are_few.false) (c.are_short.ensures.0 c.if-not-are_short.false) c.in-Ok.ensures.thresholds c.in-Ok.ensures.kind c.in-Ok.ensures.parts c.in-Ok.ensures.ranges
