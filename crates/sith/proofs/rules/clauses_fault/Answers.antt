use Rattle.std.proofs.Common.{sym, subst, take, ◌++◌}
use Rattle.std.specs.List.{AllByRecursion, flat_map}
use Rattle.sith.specs.Weights.{IsWeight}
use Rattle.sith.specs.Terms.{sums_of}
use Rattle.sith.specs.Rules.{IsSumsFault}
use Rattle.sith.proofs.Lists.{all_at, all_in, flat_taken}
use Rattle.sith.proofs.ReadFor.{graver_is}
use Rattle.sith.proofs.rules.clauses_fault.Goals as goal

pub clause_fault-requires : goal.clause_fault-requires
clause_fault-requires c =
    subst (λ terms. AllByRecursion (AllByRecursion IsWeight) (sums_of terms)) (sym c.as_slice.ensures)
    (all_at (λ terms. AllByRecursion (AllByRecursion IsWeight) (sums_of terms)) _ _ c.clause-item.result (all_in sums_of (AllByRecursion IsWeight) _ c.requires) c.loop-clause-test.true c.clause-item.is)

pub loop-clause-preserved : goal.loop-clause-preserved
loop-clause-preserved c =
    subst (IsSumsFault c.graver-fault.result) (sym (flat_taken _ _ c.clause-item.result c.loop-clause-test.true c.clause-item.is sums_of))
    (subst (λ fault. IsSumsFault fault (flat_map sums_of (take c.loop-clause.clause-index c.args.clauses.now) ++ sums_of c.clause-item.result)) (sym c.graver-fault.ensures)
    (graver_is c.loop-clause.fault c.clause_fault.result _ _ c.loop-clause.invariant (subst (λ terms. IsSumsFault c.clause_fault.result (sums_of terms)) c.as_slice.ensures c.clause_fault.ensures)))
