use Rattle.std.proofs.Common.{◌∙◌}
use Rattle.claim_table.specs.declared.claim_table.signature.Signature.{Signature}
use Rattle.validator_core.proofs.AcceptanceLemmas.Verdicts.{answered}
use Rattle.validator_core.proofs.acceptance.signed_entries.VerdictVerdicts.says_yes.Goals as goal

pub returns : goal.returns
returns c =
    let signature : Signature = record { body = c.args.self.now.number; key = c.args.key.now; sig = c.args.sig.now } in
    c.is_yes.ensures ∙ answered c.args.self.now.claims.now.rows signature c.verdict.result c.verdict.ensures.verdict
