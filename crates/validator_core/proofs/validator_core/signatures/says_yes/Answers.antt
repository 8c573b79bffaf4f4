use Rattle.std.proofs.Common.{◌∙◌, ap}
use Rattle.claim_table.specs.declared.claim_table.signature.Signature.{Signature}
use Rattle.validator_core.proofs.AcceptanceLemmas.Verdicts.{answered}
use Rattle.validator_core.specs.Acceptance.Entries.{says_in}
use Rattle.validator_core.proofs.validator_core.signatures.says_yes.Goals as goal

pub returns : goal.returns
returns c =
    let signature : Signature = record { body = c.args.number; key = c.args.key.now; sig = c.args.sig.now } in
    c.is_yes.ensures ∙ answered c.claims.result.now.rows signature c.verdict.result c.verdict.ensures.verdict
    ∙ ap (λ t. says_in t.rows c.args.number c.args.key.now c.args.sig.now) c.claims.ensures
