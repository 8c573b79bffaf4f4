use Rattle.std.proofs.Common.{sym, subst}
use Rattle.claim_table.specs.ClaimTable.Table.{KeepsPending}
use Rattle.claim_table.proofs.ClaimTableLemmas.Kept.{pending_within}
use Rattle.claim_table.proofs.claim_table.claim_table.ClaimTable.truncate.Goals as goal

pub truncate-requires-clause-kept : goal.truncate-requires-clause-kept
truncate-requires-clause-kept c =
    let inner = c.self.inside.inner in
    pending_within c.args.len inner.rows.items inner.pending c.self.invariant.first (subst (λ v. KeepsPending c.args.len v.rows v.pending) (sym c.self.view_is) c.requires)
