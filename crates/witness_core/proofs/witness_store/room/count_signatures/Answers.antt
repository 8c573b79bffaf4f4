use Rattle.std.proofs.Common.{arith}
use Rattle.witness_core.proofs.WitnessStoreLemmas.Counting.{counted_more, counts_held, counts_no_other}
use Rattle.witness_core.proofs.witness_store.room.count_signatures.Goals as goal
use Rattle.witness_core.proofs.witness_store.room.count_signatures.Goals.{in-Controller, in_default}

pub loop-claim-preserved : goal.loop-claim-preserved
loop-claim-preserved c =
    let was = c.loop-claim.invariant in
    let more = counted_more c.args.claims.now c.loop-claim.claim-index c.claim-item.result c.loop-claim-test.true c.claim-item.is in
    elim c.match-claim.branch [
      | in-Controller w ↦ (let one = counts_held c.claim-item.result w.in-Controller.field-0 w.in-Controller.is in
          record { counted = omega (arith, w.count-is, was.counted, more, one); few = omega (arith, w.count-is, was.few) })
      | in_default w ↦ (let none = counts_no_other c.claim-item.result w.in_default.not-Controller in
          record { counted = omega (arith, w.count-is, was.counted, more, none); few = omega (arith, w.count-is, was.few) })
    ]
