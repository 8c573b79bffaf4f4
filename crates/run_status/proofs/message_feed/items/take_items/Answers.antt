use Rattle.std.proofs.Common.{◌≡◌, ◌∙◌, ap, inl, inr, Some, true, refl}
use Rattle.cesr_stream.specs.Reading.{AnswersItem}
use Rattle.run_status.proofs.MessageFeedLemmas.Steps.{serves_more, serves_still, halts_more, same_more, limit_more}
use Rattle.run_status.proofs.message_feed.items.take_items.Goals as goal

pub loop-bad-preserved : goal.loop-bad-preserved
loop-bad-preserved g c =
    let old = c.loop-bad.reader in
    let a : AnswersItem old c.next.new.self c.in-Ok-Item.item c.in-Ok-Item.place = rw c.in-Ok-Item.field-0-is at c.in-Ok-Item.ensures.answer in
    record {
      not_bad = ap (λ r. r.bad) a.moved ∙ a.not_bad;
      serves = λ fed s.
          let now = c.loop-bad.invariant.serves fed s in (
            serves_more (g.T.Taker.has_taken g.first) (g.T.Taker.has_stopped g.first) old c.next.new.self c.loop-bad.assembler c.hand_on.new.assembler c.loop-bad.taker c.hand_on.new.taker
                c.in-Ok-Item.item c.in-Ok-Item.place a fed now.0 c.in-Ok.field-0 c.in-Ok.ensures,
            same_more c.args.reader.now old c.next.new.self c.args.assembler.now c.loop-bad.assembler c.hand_on.new.assembler c.in-Ok-Item.item c.in-Ok-Item.place now.1 a
                (limit_more (g.T.Taker.has_taken g.first) (g.T.Taker.has_stopped g.first) old c.next.new.self c.loop-bad.assembler c.hand_on.new.assembler c.loop-bad.taker c.hand_on.new.taker
                c.in-Ok-Item.item c.in-Ok-Item.place a fed now.0 c.in-Ok.field-0 c.in-Ok.ensures),
          );
    }

pub returns-in-Ok-NeedMore-clause-ok : goal.returns-in-Ok-NeedMore-clause-ok
returns-in-Ok-NeedMore-clause-ok g c = λ fed s.
    let old = c.loop-bad.reader in
    let is = rw c.in-Ok-NeedMore.field-0-is at c.in-Ok-NeedMore.ensures.answer in
    rw is.2 (serves_still (g.T.Taker.has_taken g.first) fed c.args.reader.now old c.args.assembler.now c.loop-bad.assembler c.loop-bad.taker old.bad true (c.loop-bad.invariant.serves fed s))

pub returns-in-Ok-Bad-clause-ok : goal.returns-in-Ok-Bad-clause-ok
returns-in-Ok-Bad-clause-ok g c = λ fed s.
    let old = c.loop-bad.reader in
    let is = rw c.in-Ok-Bad.field-0-is at c.in-Ok-Bad.ensures.answer in
    elim is [
      | inl same ↦ rw same.1 (c.loop-bad.invariant.serves fed s)
      | inr bad ↦ rw bad.refused_now
          (serves_still (g.T.Taker.has_taken g.first) fed c.args.reader.now old c.args.assembler.now c.loop-bad.assembler c.loop-bad.taker (Some c.in-Ok-Bad.bad) old.drained (c.loop-bad.invariant.serves fed s))
    ]

pub returns-in-Err-hand_on-clause-err : goal.returns-in-Err-hand_on-clause-err
returns-in-Err-hand_on-clause-err g c = λ fed s.
    let old = c.loop-bad.reader in
    let a : AnswersItem old c.next.new.self c.in-Ok-Item.item c.in-Ok-Item.place = rw c.in-Ok-Item.field-0-is at c.in-Ok-Item.ensures.answer in
    let now = c.loop-bad.invariant.serves fed s in
    let halts = halts_more (g.T.Taker.has_taken g.first) (g.T.Taker.has_stopped g.first) old c.next.new.self c.loop-bad.assembler c.hand_on.new.assembler c.loop-bad.taker c.hand_on.new.taker
    c.in-Ok-Item.item c.in-Ok-Item.place a fed now.0 (Unit {0}) c.in-Err-hand_on.halt c.in-Err-hand_on.ensures in
    (halts.0, same_more c.args.reader.now old c.next.new.self c.args.assembler.now c.loop-bad.assembler c.hand_on.new.assembler c.in-Ok-Item.item c.in-Ok-Item.place now.1 a halts.1)

pub returns-in-Err-clause-err : goal.returns-in-Err-clause-err
returns-in-Err-clause-err g c = λ fed s.
    let now = c.loop-bad.invariant.serves fed s in
    let same : c.next.new.self ≡ c.loop-bad.reader = c.in-Err.ensures.answer in
    rw (c.from.ensures, same) ((c.loop-bad.reader, refl, now.0), now.1)
