use Rattle.std.proofs.Common.{◌≡◌, take}
use Rattle.lists.specs.KeriSpecs.Shown.{after}
use Rattle.witness_core.specs.WitnessLink.Calls.{text_of}
use Rattle.witness_core.proofs.witness_link.receipts.put_receipts.Given as goal

-- the receipts so far were put, and no put failed
abbrev pub invariant-loop-receipt : goal.invariant-loop-receipt
invariant-loop-receipt g l = record {
  put_so_far : g.K.Sink.written l.sink ≡ after (g.K.Sink.written l.fn.sink) (text_of (take l.receipt-index l.receipts));
  faults_same : g.K.Sink.faults l.sink ≡ g.K.Sink.faults l.fn.sink;
}
