use Rattle.std.proofs.Common.{arith}
use Rattle.quorum_laws.proofs.Adding.{union_more}
use Rattle.quorum_laws.proofs.unions.added.Goals as goal
use Rattle.quorum_laws.proofs.unions.added.Goals.{then-is_new, else-is_new}

pub loop-i-preserved : goal.loop-i-preserved
loop-i-preserved c =
    let more = union_more c.args.known.now c.args.keys.now c.loop-i.i _ c.is_new.result c.loop-i-test.true c.is_new.ensures in
    let old = c.loop-i.invariant in
    elim c.if-is_new.branch [
      | then-is_new w ↦ (let new = rw w.if-is_new.true at more in record { counted = omega (arith, new, old.counted, w.count-is); few = omega (arith, old.few, w.count-is) })
      | else-is_new w ↦ (let new = rw w.if-is_new.false at more in record { counted = omega (arith, new, old.counted, w.count-is); few = omega (arith, old.few, w.count-is) })
    ]
