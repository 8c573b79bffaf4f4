use Rattle.std.proofs.Common.{subst}
use Rattle.std.specs.List.{flat_map}
use Rattle.sith.specs.Terms.{sums_of}
use Rattle.sith.specs.Rules.{IsSumsFault}
use Rattle.sith.proofs.ReadFor.{none_is, fault_is}
use Rattle.sith.proofs.threshold.Threshold.rule_fault.Goals as goal

pub returns-clause-none : goal.returns-clause-none
returns-clause-none c =
    none_is c.args.self.now c.args.keys (c.is_in_range.ensures.0 c.if-not-is_in_range.false) c.clauses_fault.result c.requires (subst (λ clauses. IsSumsFault c.clauses_fault.result (flat_map sums_of clauses)) c.clauses.ensures c.clauses_fault.ensures)

pub returns-clause-some : goal.returns-clause-some
returns-clause-some c =
    fault_is c.args.self.now c.args.keys (c.is_in_range.ensures.0 c.if-not-is_in_range.false) c.clauses_fault.result (subst (λ clauses. IsSumsFault c.clauses_fault.result (flat_map sums_of clauses)) c.clauses.ensures c.clauses_fault.ensures)
