use Rattle.std.proofs.Common.{ap, subst, inl, inr, Ok, arith}
use Rattle.json_tree.proofs.Readers.{IfErr-handed_on}
use Rattle.sith.specs.Rules.{IsRuleFault}
use Rattle.sith.proofs.ReadFor.{spelled_weights}
use Rattle.sith.proofs.OneThreshold.{one_threshold}
use Rattle.sith.proofs.Spelled.{form_is_good, no_rule, memory_ran_out}
use Rattle.sith.proofs.ThresholdValues.{value_of_read}
use Rattle.sith.proofs.threshold.Threshold.read.Goals as goal

pub rule_fault-requires : goal.rule_fault-requires
rule_fault-requires c = spelled_weights _ _ c.in_ok-threshold.ensures.some

pub returns-in_err-threshold-clause-only : goal.returns-in_err-threshold-clause-only
returns-in_err-threshold-clause-only c threshold spells good =
    let same = form_is_good threshold c.args.tree.now c.in_err-threshold.field-0.0 spells c.in_err-threshold.ensures.fault in
    inr (memory_ran_out c.from_residual.result c.from_residual.ensures.0 (IfErr-handed_on _ _ _ c.from_residual.ensures.1 same))

pub returns-in-None-clause-value : goal.returns-in-None-clause-value
returns-in-None-clause-value c = value_of_read _ _ c.args.keys c.in_ok-threshold.ensures.some c.in-None.ensures.none.0 (omega arith)

pub returns-in-None-clause-only : goal.returns-in-None-clause-only
returns-in-None-clause-only c threshold spells good =
    inl (ap Ok (one_threshold c.in_ok-threshold.threshold threshold c.args.tree.now c.in_ok-threshold.ensures.some spells))

pub returns-in-Some-clause-only : goal.returns-in-Some-clause-only
returns-in-Some-clause-only c threshold spells good =
    let same = one_threshold c.in_ok-threshold.threshold threshold c.args.tree.now c.in_ok-threshold.ensures.some spells in
    absurd (no_rule threshold c.args.keys c.in-Some.fault good (subst (λ t. IsRuleFault c.in-Some.fault t c.args.keys) same c.in-Some.ensures.some))
