use Rattle.std.proofs.Common.{arith, sym, ◌∙◌}
use Rattle.sith.proofs.Lists.{all_at, sum_dropped}
use Rattle.sith.proofs.Multiples.{weight_at}
use Rattle.sith.proofs.Sums.{sum_with, sum_without}
use Rattle.sith.proofs.sum.sum_of_met.Goals as goal
use Rattle.sith.proofs.sum.sum_of_met.Goals.{then-is_met, else-is_met}

pub parts_of-requires-clause-weight : goal.parts_of-requires-clause-weight
parts_of-requires-clause-weight g c = weight_at g.M.Member.weight _ _ c.member-item.result _ c.requires.weights c.loop-member-test.true c.member-item.is c.weight.ensures

pub is_met-requires : goal.is_met-requires
is_met-requires g c =
    let few = c.loop-member.invariant.few in
    record {
      read = all_at g.M.Member.read _ _ c.member-item.result c.requires.read c.loop-member-test.true c.member-item.is;
      few = omega (arith, few, sum_dropped _ _ c.member-item.result c.loop-member-test.true c.member-item.is g.M.Member.size);
    }

pub loop-member-preserved : goal.loop-member-preserved
loop-member-preserved g c =
    let kept = c.loop-member.invariant in
    let size = c.size-index.ensures in
    let few = sum_dropped _ _ c.member-item.result c.loop-member-test.true c.member-item.is g.M.Member.size in
    elim c.if-is_met.branch [
      | then-is_met w ↦
          let next = sum_with g.M.Member.weight g.M.Member.size g.M.Member.met c.args.whole c.args.indices.now _ _ c.member-item.result c.loop-member-test.true c.member-item.is c.loop-member.index _ c.loop-member.sum _ _ _ _ (sym c.is_met.ensures ∙ w.if-is_met.true) w.weight.ensures w.parts_of.ensures.value w.saturating_add-sum.ensures size kept.sum in
          record { sum = omega (arith, next, w.sum-is); most = omega (arith, w.saturating_add-sum.ensures, w.sum-is); few = omega (arith, kept.few, few, size) }
      | else-is_met w ↦
          let next = sum_without g.M.Member.weight g.M.Member.size g.M.Member.met c.args.whole c.args.indices.now _ _ c.member-item.result c.loop-member-test.true c.member-item.is c.loop-member.index c.loop-member.sum _ _ (sym c.is_met.ensures ∙ w.if-is_met.false) size kept.sum in
          record { sum = omega (arith, next, w.sum-is); most = omega (arith, kept.most, w.sum-is); few = omega (arith, kept.few, few, size) }
    ]
