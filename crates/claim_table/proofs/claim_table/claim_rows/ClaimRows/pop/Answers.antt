use Rattle.std.proofs.Common.{◌≡◌, ◌∷◌, ◌-◌, [], length, false, cond, subst, ap, arith}
use Rattle.std.specs.BTreeMap.{is_at}
use Rattle.std.specs.BTreeSet.{contains}
use Rattle.std.proofs.lemmas.List.{length-append}
use Rattle.claim_table.specs.ClaimTable.Counts.{amount, is_entered}
use Rattle.claim_table.specs.declared.claim_table.spot.Spot.{Spot}
use Rattle.claim_table.specs.ClaimTable.Keeping.{IsKept, IsPendingBelow, places_of, spot_at, spot_cmp}
use Rattle.claim_table.proofs.ClaimTableLemmas.Kept.{kept_popped}
use Rattle.claim_table.proofs.claim_table.claim_rows.ClaimRows.pop.Goals as goal

pub returns-clause-sound : goal.returns-clause-sound
returns-clause-sound c =
    let t = c.args.self.now in let rest = c.pop.new.self.items in let r = c.in-Some.row in
    let count = ap length c.in-Some.ensures.items in let long = length-append rest (r ∷ []) in
    let fewer : length t.rows.items - 1 ≡ length rest = omega (arith, count, long) in
    let kept = subst (λ rows. IsKept rows t.pending (contains spot_cmp t.spots) (places_of t.by_signature) (amount t.counts) (is_entered t.counts)) c.in-Some.ensures.items c.requires.sound in
    let below = subst (λ n. IsPendingBelow n t.pending) fewer c.requires.kept in
    let place : c.len.result ≡ length rest = omega (arith, c.len.ensures) in
    let updates = subst (λ n. (q : Spot) → contains spot_cmp c.remove.new.self q ≡ cond (is_at (spot_cmp (spot_at r.claimed.body n)) q) false (contains spot_cmp t.spots q)) place c.remove.ensures.updates.0 in
    kept_popped rest r (places_of t.by_signature) (amount t.counts) (is_entered t.counts) t.pending (contains spot_cmp t.spots) (contains spot_cmp c.remove.new.self) (amount c.uncount_yes.new.self) (is_entered c.uncount_yes.new.self)
    updates below c.uncount_yes.ensures.amounts c.uncount_yes.ensures.kept kept
