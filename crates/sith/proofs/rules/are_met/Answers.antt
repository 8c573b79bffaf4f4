use Rattle.std.proofs.Common.{sym, subst, ap, arith}
use Rattle.std.specs.List.{AllByRecursion}
use Rattle.sith.specs.Clauses.{AreRead}
use Rattle.sith.specs.Terms.{clause_size, sums_of}
use Rattle.sith.proofs.Lists.{all_at, all_in, sum_dropped}
use Rattle.sith.proofs.rules.are_met.Goals as goal

pub is_met-requires : goal.is_met-requires
is_met-requires c =
    let few = c.loop-clause.invariant.few in
    let same = ap clause_size c.as_slice.ensures in
    record {
      read = subst (λ terms. AllByRecursion AreRead (sums_of terms)) (sym c.as_slice.ensures)
          (all_at (λ terms. AllByRecursion AreRead (sums_of terms)) _ _ c.clause-item.result (all_in sums_of AreRead _ c.requires.read) c.loop-clause-test.true c.clause-item.is);
      few = omega (arith, few, same, sum_dropped _ _ c.clause-item.result c.loop-clause-test.true c.clause-item.is clause_size);
    }
