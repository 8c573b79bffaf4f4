use Rattle.std.proofs.Common.{sym, ◌∙◌, arith}
use Rattle.std.specs.declared.alloc.AllocError.{AllocError}
use Rattle.journal_views.proofs.EventPayloadLemmas.Readings.{left_none, next_left, not_groups}
use Rattle.journal_views.proofs.event_payload.front.are_groups.Goals as goal

pub returns-then-not-is_group : goal.returns-then-not-is_group
returns-then-not-is_group c =
    not_groups c.args.reader.now c.loop-reader.reader c.loop-reader.invariant (omega (arith, c.buffered.ensures, c.loop-reader-test.true)) c.next.new.self AllocError c.in_ok-step.step
    c.in_ok-step.ensures.answer (sym c.is_group.ensures ∙ c.if-not-is_group.true)

pub loop-reader-preserved-else-not-is_group-2 : goal.loop-reader-preserved-else-not-is_group-2
loop-reader-preserved-else-not-is_group-2 c =
    (next_left c.args.reader.now c.loop-reader.reader c.loop-reader.invariant (omega (arith, c.buffered.ensures, c.loop-reader-test.true)) c.next.new.self AllocError c.in_ok-step.step
    c.in_ok-step.ensures.answer (sym c.is_group.ensures ∙ c.if-not-is_group.false)).0

pub returns : goal.returns
returns c = left_none c.args.reader.now c.loop-reader.reader c.loop-reader.invariant (omega (arith, c.buffered.ensures, c.loop-reader-test.false))
