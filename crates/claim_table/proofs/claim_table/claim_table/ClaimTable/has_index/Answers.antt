use Rattle.std.proofs.Common.{sym, ◌∙◌, ap, nat_lt}
use Rattle.claim_table.specs.declared.claim_table.part.Part.TheVariants.{Indexed}
use Rattle.claim_table.specs.ClaimTable.Parts.{has_part, supports}
use Rattle.claim_table.proofs.ClaimTableLemmas.Lists.{any_count}
use Rattle.claim_table.proofs.claim_table.claim_table.ClaimTable.has_index.Goals as goal

pub returns : goal.returns
returns c =
    let part = Indexed c.args.index in let inner = c.self.inside.inner in
    c.has.ensures ∙ ap (nat_lt 0) (c.self.invariant.counted (record { body = c.args.body; part = part })) ∙ sym (any_count (supports (record { body = c.args.body; part = part })) inner.rows.items)
    ∙ ap (λ v. has_part v.rows c.args.body part) c.self.view_is
