use Rattle.std.proofs.Common.{sym, subst, take, ◌++◌}
use Rattle.std.specs.List.{AllByRecursion, flat_map}
use Rattle.sith.specs.Weights.{IsWeight}
use Rattle.sith.specs.Terms.{inner_of}
use Rattle.sith.specs.Rules.{IsSumsFault}
use Rattle.sith.proofs.Lists.{all_at, all_in, flat_taken}
use Rattle.sith.proofs.ReadFor.{graver_is}
use Rattle.sith.proofs.rules.groups_fault.Goals as goal

pub inner_fault-requires : goal.inner_fault-requires
inner_fault-requires c = all_at (λ term. AllByRecursion (AllByRecursion IsWeight) (inner_of term)) _ _ c.term-item.result (all_in inner_of (AllByRecursion IsWeight) _ c.requires) c.loop-term-test.true c.term-item.is

pub loop-term-preserved : goal.loop-term-preserved
loop-term-preserved c =
    subst (IsSumsFault c.graver-fault.result) (sym (flat_taken _ _ c.term-item.result c.loop-term-test.true c.term-item.is inner_of))
    (subst (λ fault. IsSumsFault fault (flat_map inner_of (take c.loop-term.term-index c.args.terms.now) ++ inner_of c.term-item.result)) (sym c.graver-fault.ensures) (graver_is c.loop-term.fault c.inner_fault.result _ _ c.loop-term.invariant c.inner_fault.ensures))
