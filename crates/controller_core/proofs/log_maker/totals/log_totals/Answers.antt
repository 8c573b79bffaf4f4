use Rattle.std.proofs.Common.{◌≡◌, ◌+◌, ◌-◌, length, ap, ◌∙◌, arith}
use Rattle.controller_core.specs.LogMaker.Messages.{message_text}
use Rattle.controller_core.specs.LogMaker.Streams.{messages_from}
use Rattle.controller_core.proofs.LogMakerLemmas.Counts.{one_counted, all_counted}
use Rattle.controller_core.proofs.log_maker.totals.log_totals.Goals as goal

pub events-preserved : goal.events-preserved
events-preserved c =
    let seed = c.args.seed in
    let log = c.args.log in
    let next = c.events.next in
    let kept = c.events.invariant in
    let size : c.message_size.result ≡ length (message_text seed log next.sn) = c.message_size.ensures.size ∙ (λ i. length (message_text (kept.seed_is i) (kept.log_is i) next.sn)) in
    let left : length (messages_from seed log c.next-next.result.sn (c.args.events - c.next-next.result.sn)) ≡ length (messages_from seed log (next.sn + 1) (c.args.events - (next.sn + 1))) =
    ap (λ sn. length (messages_from seed log sn (c.args.events - sn))) c.next-next.ensures.sn in
    record {
      seed_is = c.next-next.ensures.of.0 ∙ kept.seed_is;
      log_is = c.next-next.ensures.of.1 ∙ kept.log_is;
      within = omega (arith, c.next-next.ensures.sn);
      some = omega (arith, c.next-next.ensures.sn, c.in-Some.ensures, c.message_size.ensures.some, kept.some);
      counted = omega (arith, left, size, c.in-Some.ensures, one_counted seed log next.sn c.args.events c.events.bytes (length (messages_from seed log 0 c.args.events)) c.events-test.true kept.counted);
    }

pub returns-in_default-clause-many : goal.returns-in_default-clause-many
returns-in_default-clause-many c =
    let seed = c.args.seed in
    let log = c.args.log in
    let next = c.events.next in
    let kept = c.events.invariant in
    let size : c.message_size.result ≡ length (message_text seed log next.sn) = c.message_size.ensures.size ∙ (λ i. length (message_text (kept.seed_is i) (kept.log_is i) next.sn)) in
    omega (arith, size, c.in_default.ensures, one_counted seed log next.sn c.args.events c.events.bytes (length (messages_from seed log 0 c.args.events)) c.events-test.true kept.counted)

pub returns-clause-bytes : goal.returns-clause-bytes
returns-clause-bytes c = all_counted c.args.seed c.args.log c.events.next.sn c.args.events c.events.bytes (length (messages_from c.args.seed c.args.log 0 c.args.events)) c.events-test.false c.events.invariant.counted
