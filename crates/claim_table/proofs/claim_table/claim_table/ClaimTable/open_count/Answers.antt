use Rattle.std.proofs.Common.{length, subst, sym, ◌∙◌, ap}
use Rattle.std.specs.BTreeSet.{contains}
use Rattle.claim_table.specs.ClaimTable.Keeping.{AreOpen, spot_cmp}
use Rattle.claim_table.specs.ClaimTable.Rows.{open_rows}
use Rattle.claim_table.specs.ClaimTable.Table.{AreBelow}
use Rattle.claim_table.proofs.ClaimTableLemmas.Kept.{none_pending}
use Rattle.claim_table.proofs.ClaimTableLemmas.Questions.{count_is}
use Rattle.claim_table.proofs.claim_table.claim_table.ClaimTable.open_count.Goals as goal

pub returns : goal.returns
returns c = λ bodies below.
    let t = c.self.inside.inner in
    let idle = none_pending t.pending (ap (λ v. v.pending) c.self.view_is ∙ c.requires) in
    let opened = subst (λ p. AreOpen t.rows.items p (contains spot_cmp t.spots)) idle c.self.invariant.opened in
    c.spot_count.ensures.count ∙ count_is t.spots bodies t.rows.items c.spot_count.ensures.rising opened (subst (λ v. AreBelow bodies v.rows) (sym c.self.view_is) below)
    ∙ ap (λ v. length (open_rows bodies v.rows)) c.self.view_is
