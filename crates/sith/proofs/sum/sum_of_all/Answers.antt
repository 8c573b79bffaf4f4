use Rattle.std.proofs.Common.{arith}
use Rattle.sith.proofs.Multiples.{weight_at}
use Rattle.sith.proofs.Sums.{sum_more}
use Rattle.sith.proofs.sum.sum_of_all.Goals as goal

pub parts_of-requires-clause-weight : goal.parts_of-requires-clause-weight
parts_of-requires-clause-weight g c = weight_at g.M.Member.weight _ _ c.member-item.result _ c.requires.weights c.loop-member-test.true c.member-item.is c.weight.ensures

pub loop-member-preserved : goal.loop-member-preserved
loop-member-preserved g c = record {
  sum = sum_more g.M.Member.weight _ _ _ c.member-item.result c.loop-member-test.true c.member-item.is _ _ _ _ _ c.weight.ensures c.parts_of.ensures.value c.saturating_add-sum.ensures c.loop-member.invariant.sum;
  most = omega (arith, c.saturating_add-sum.ensures);
}
