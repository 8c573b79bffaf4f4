use Rattle.std.proofs.Common.{sym, subst, ◌∙◌}
use Rattle.std.specs.BTreeSet.{contains}
use Rattle.claim_table.specs.ClaimTable.Counts.{amount, is_entered}
use Rattle.claim_table.specs.ClaimTable.Keeping.{IsKept, places_of, spot_cmp}
use Rattle.claim_table.proofs.ClaimTableLemmas.Kept.{kept_closed}
use Rattle.claim_table.proofs.claim_table.claim_rows.ClaimRows.close.Goals as goal

pub returns-clause-sound : goal.returns-clause-sound
returns-clause-sound c =
    let t = c.args.self.now in
    let kept = subst (λ pending. IsKept t.rows.items pending (contains spot_cmp t.spots) (places_of t.by_signature) (amount t.counts) (is_entered t.counts)) (sym c.take.ensures.value ∙ c.in-Some.is) c.requires in
    rw c.take.ensures.after (kept_closed _ _ _ _ c.in-Some.pending (contains spot_cmp t.spots) (contains spot_cmp c.remove.new.self) c.remove.ensures.updates.0 kept)
