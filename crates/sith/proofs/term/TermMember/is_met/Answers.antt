use Rattle.std.proofs.Common.{arith, ap, length, refl}
use Rattle.sith.specs.contracts.member.WeightMember.TheImpl.{size-value}
use Rattle.sith.specs.Terms.{term_size}
use Rattle.sith.proofs.Lists.{sum_by_ones}
use Rattle.sith.proofs.term.TermMember.is_met.Goals as goal

pub reaches_whole-requires-clause-few : goal.reaches_whole-requires-clause-few
reaches_whole-requires-clause-few c =
    let few = c.requires.few in
    let size = sum_by_ones size-value.it (λ w. refl) c.as_slice.result.now in
    let same = ap length c.as_slice.ensures in
    let whole = ap term_size c.in-Group.is in
    omega (arith, few, size, same, whole)
