use Rattle.std.proofs.Common.{arith}
use Rattle.sith.proofs.Multiples.{least_of_none, next_least, too_fine, weight_at}
use Rattle.sith.proofs.sum.common_multiple.Goals as goal

pub loop-member-init : goal.loop-member-init
loop-member-init g c = record { least = least_of_none; some = omega arith; most = omega arith }

pub denominator_of-requires : goal.denominator_of-requires
denominator_of-requires g c = weight_at g.M.Member.weight _ _ c.member-item.result _ c.requires c.loop-member-test.true c.member-item.is c.weight.ensures

pub returns-then-multiple-gt-FINEST-clause-none : goal.returns-then-multiple-gt-FINEST-clause-none
returns-then-multiple-gt-FINEST-clause-none g c =
    too_fine g.M.Member.weight _ _ _ (next_least g.M.Member.weight _ _ c.member-item.result _ _ _ _ c.loop-member-test.true c.member-item.is c.weight.ensures c.denominator_of.ensures.value c.loop-member.invariant.least c.least_multiple-multiple.ensures.multiple) c.if-multiple-gt-FINEST.true

pub loop-member-preserved : goal.loop-member-preserved
loop-member-preserved g c = record {
  least = next_least g.M.Member.weight _ _ c.member-item.result _ _ _ _ c.loop-member-test.true c.member-item.is c.weight.ensures c.denominator_of.ensures.value c.loop-member.invariant.least c.least_multiple-multiple.ensures.multiple;
  some = c.least_multiple-multiple.ensures.range.0;
  most = omega (arith, c.if-multiple-gt-FINEST.false);
}
