use Rattle.std.proofs.Common.{◌∙◌, Err, ap, refl, take}
use Rattle.lists.specs.KeriSpecs.Shown.{after}
use Rattle.lists.proofs.KeriSpecsLemmas.Putting.{put_front}
use Rattle.witness_core.specs.declared.witness_receipts.receipt.Receipt.{Receipt}
use Rattle.witness_core.proofs.witness_link.receipts.put_receipts.Goals as goal

pub returns-in-Err-clause-puts : goal.returns-in-Err-clause-puts
returns-in-Err-clause-puts g c =
    let before = g.K.Sink.written c.loop-receipt.sink in
    let put = c.in-Err.ensures.bytes in
    put_front (λ (r : Receipt). r.bytes.items) c.args.receipts.now c.loop-receipt.receipt-index c.receipt-item.result c.loop-receipt-test.true c.receipt-item.is {T = Unit {0}} (Err c.in-Err.field-0)
    (g.K.Sink.written c.args.sink.now) before (g.K.Sink.written c.put.new.self) refl c.loop-receipt.invariant.put_so_far
    (put.0, put.1 ∙ ap (λ l. after before (take put.0 l)) c.as_slice.ensures.value)
