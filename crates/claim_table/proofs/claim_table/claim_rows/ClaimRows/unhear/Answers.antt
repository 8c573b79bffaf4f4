use Rattle.std.proofs.Common.{sym, subst, ◌∙◌}
use Rattle.std.specs.BTreeSet.{contains}
use Rattle.claim_table.specs.ClaimTable.Counts.{amount, is_entered}
use Rattle.claim_table.specs.ClaimTable.Keeping.{IsKept, places_of, spot_cmp}
use Rattle.claim_table.proofs.ClaimTableLemmas.Hints.{all_hinted}
use Rattle.claim_table.proofs.ClaimTableLemmas.Kept.{kept_unheard}
use Rattle.claim_table.proofs.claim_table.claim_rows.ClaimRows.unhear.Goals as goal

pub set_verdicts-requires-clause-all : goal.set_verdicts-requires-clause-all
set_verdicts-requires-clause-all c = λ i of.
    rw (c.few.ensures.those, c.many.ensures.those) (all_hinted c.args.self.now.rows.items (places_of c.args.self.now.by_signature) c.in-Some.pending.signature c.requires.hinted i of)

pub returns-clause-sound : goal.returns-clause-sound
returns-clause-sound c =
    let t = c.args.self.now in
    let kept = subst (λ pending. IsKept t.rows.items pending (contains spot_cmp t.spots) (places_of t.by_signature) (amount t.counts) (is_entered t.counts)) (sym c.take.ensures.value ∙ c.in-Some.is) c.requires in
    rw c.take.ensures.after (kept_unheard _ _ _ _ c.in-Some.pending (contains spot_cmp t.spots) _ _ (is_entered c.set_verdicts.new.counts) c.set_verdicts.ensures.rows c.set_verdicts.ensures.counted c.set_verdicts.ensures.entries kept)
