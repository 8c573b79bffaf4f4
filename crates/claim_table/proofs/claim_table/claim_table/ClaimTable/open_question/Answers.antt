use Rattle.std.proofs.Common.{slice_get, subst, sym, ◌∙◌, ap}
use Rattle.std.specs.BTreeSet.{contains}
use Rattle.std.specs.Option.{option_map}
use Rattle.claim_table.specs.declared.claim_table.row.Row.{Row}
use Rattle.claim_table.specs.ClaimTable.Keeping.{AreOpen, spot_cmp}
use Rattle.claim_table.specs.ClaimTable.Rows.{open_rows, signature_of}
use Rattle.claim_table.specs.ClaimTable.Table.{AreBelow}
use Rattle.claim_table.proofs.ClaimTableLemmas.Kept.{none_pending}
use Rattle.claim_table.proofs.ClaimTableLemmas.Questions.{row_at_spot, row_is}
use Rattle.claim_table.proofs.claim_table.claim_table.ClaimTable.open_question.Goals as goal

pub returns-in-Some : goal.returns-in-Some
returns-in-Some c = λ bodies below.
    let t = c.self.inside.inner in let rows = t.rows.items in
    let idle = none_pending t.pending (ap (λ v. v.pending) c.self.view_is ∙ c.requires) in
    let opened = subst (λ p. AreOpen rows p (contains spot_cmp t.spots)) idle c.self.invariant.opened in
    let row = row_is t.spots bodies rows c.in-Some.ensures.rising opened (subst (λ v. AreBelow bodies v.rows) (sym c.self.view_is) below) c.args.skip in
    c.signature_at.ensures ∙ ap (λ rows. option_map (λ (r : Row). signature_of r.claimed) (slice_get rows c.in-Some.spot.row)) c.as_slice.ensures.value
    ∙ ap (λ o. option_map (λ (r : Row). signature_of r.claimed) (row_at_spot rows o)) c.in-Some.ensures.nth ∙ ap (option_map (λ (r : Row). signature_of r.claimed)) row
    ∙ ap (λ v. option_map (λ (r : Row). signature_of r.claimed) (slice_get (open_rows bodies v.rows) c.args.skip)) c.self.view_is

pub returns-in-None : goal.returns-in-None
returns-in-None c = λ bodies below.
    let t = c.self.inside.inner in let rows = t.rows.items in
    let idle = none_pending t.pending (ap (λ v. v.pending) c.self.view_is ∙ c.requires) in
    let opened = subst (λ p. AreOpen rows p (contains spot_cmp t.spots)) idle c.self.invariant.opened in
    let row = row_is t.spots bodies rows c.in-None.ensures.rising opened (subst (λ v. AreBelow bodies v.rows) (sym c.self.view_is) below) c.args.skip in
    ap (λ o. option_map (λ (r : Row). signature_of r.claimed) (row_at_spot rows o)) c.in-None.ensures.nth ∙ ap (option_map (λ (r : Row). signature_of r.claimed)) row
    ∙ ap (λ v. option_map (λ (r : Row). signature_of r.claimed) (slice_get (open_rows bodies v.rows) c.args.skip)) c.self.view_is
