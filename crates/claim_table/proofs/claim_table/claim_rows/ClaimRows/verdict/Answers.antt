use Rattle.std.proofs.Common.{Some, ◌∙◌, ap, slice_get}
use Rattle.std.specs.Option.{option_map}
use Rattle.claim_table.specs.declared.claim_table.row.Row.{Row}
use Rattle.claim_table.specs.ClaimTable.Rows.{signature_of, verdict_of}
use Rattle.claim_table.proofs.ClaimTableLemmas.Rows.{first_raised, same_is}
use Rattle.claim_table.proofs.claim_table.claim_rows.ClaimRows.verdict.Goals as goal

pub returns-in-Some : goal.returns-in-Some
returns-in-Some c =
    let rows = c.args.self.now.rows.items in let s = c.args.signature.now in let first = c.in-Some.ensures in
    let there = first_raised rows s c.in-Some.row first in
    let verdict = c.requires.agree c.in-Some.row first.0 first.1 ∙ ap (verdict_of rows) (same_is (signature_of first.0.claimed) s first.2) in
    rw there (c.verdict_at.ensures ∙ ap (λ rows. option_map (λ (r : Row). r.verdict) (slice_get rows c.in-Some.row)) c.as_slice.ensures.value
    ∙ ap (option_map (λ (r : Row). r.verdict)) first.1 ∙ ap (λ v. Some v) verdict)
