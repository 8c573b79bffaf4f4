use Rattle.std.proofs.Common.{◌≡◌, arith}
use Rattle.event_body.specs.declared.event_body.body_fault.ReadBody.TheVariants.{OutOfMemory}
use Rattle.event_body.specs.declared.event_body.event.Event.TheVariants.{Rct}
use Rattle.event_body.specs.declared.event_body.receipt_body.ReceiptBody.{ReceiptBody}
use Rattle.event_body.specs.EventBody.Spelling.{text_of}
use Rattle.witness_core.proofs.WitnessReceiptsLemmas.ReceiptTexts.{receipt_few, receipt_spelled}
use Rattle.witness_core.proofs.witness_receipts.receipt.receipt_body.Goals as goal

pub unreachable-requires : goal.unreachable-requires
unreachable-requires c =
    let r : ReceiptBody = record { said = c.said.result; prefix = c.prefix.result; sn = c.sn.result } in
    let is : c.in-Err-Fault.field-0 ≡ OutOfMemory = c.in-Err-Fault.ensures.whole (text_of (Rct r)) (receipt_spelled r c.in_range.ensures) (omega (arith, receipt_few r c.in_range.ensures)) in
    cc (is, c.in-Err-Fault.field-0-is)
