use Rattle.std.proofs.Common.{◌∙◌, length, subst, sym}
use Rattle.validator_core.specs.ValidatorCore.Tables.{IsCore}
use Rattle.validator_core.proofs.ValidatorCoreLemmas.Bases.{base_core}
use Rattle.validator_core.proofs.validator_core.validator.Core.resume.Goals as goal

pub invariant_of-result : goal.invariant_of-result
invariant_of-result c =
    let tables = c.in_ok-tables.tables in
    let made = base_core c.args.mode c.args.limits c.args.base.items tables c.in_ok-tables.ensures.ok.0 c.in_ok-tables.ensures.ok.1 in
    subst (λ n. IsCore c.args.mode c.args.limits n tables (record { messages = 0; body_bytes = c.bytes_in-body_bytes.result; signatures = 0 })) (sym (c.len-count.ensures ∙ c.args.base.ok.0))
    (subst (λ n. IsCore c.args.mode c.args.limits (length c.args.base.items) tables (record { messages = 0; body_bytes = n; signatures = 0 })) (sym c.bytes_in-body_bytes.ensures) made)
