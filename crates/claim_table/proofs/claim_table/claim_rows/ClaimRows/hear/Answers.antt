use Rattle.std.proofs.Common.{◌≡◌, ℕ, true, List, Option, Some, None, rules, subst, ◌∙◌, ap}
use Rattle.std.specs.BTreeSet.{contains}
use Rattle.claim_table.specs.ClaimTable.Counts.{amount, is_entered}
use Rattle.claim_table.specs.ClaimTable.Keeping.{IsFirstOf, IsKept, places_of, spot_cmp}
use Rattle.claim_table.specs.ClaimTable.Rows.{is_raised, unheard}
use Rattle.claim_table.specs.declared.claim_table.row.Row.{Row}
use Rattle.claim_table.specs.declared.claim_table.signature.Signature.{Signature}
use Rattle.claim_table.proofs.ClaimTableLemmas.Hints.{all_hinted, found_first}
use Rattle.claim_table.proofs.ClaimTableLemmas.Kept.{kept_heard}
use Rattle.claim_table.proofs.ClaimTableLemmas.Rows.{unheard_heard}
use Rattle.claim_table.proofs.claim_table.claim_rows.ClaimRows.hear.Goals as goal

pub set_verdicts-requires-clause-all : goal.set_verdicts-requires-clause-all
set_verdicts-requires-clause-all c = λ i of.
    rw (c.few-few.ensures.those, c.many-many.ensures.those) (all_hinted c.args.self.now.rows.items (places_of c.args.self.now.by_signature) c.args.signature.now c.requires.sound.hinted i of)

pub returns-clause-back : goal.returns-clause-back
returns-clause-back c =
    let s = c.args.signature.now in
    ap (unheard s) c.set_verdicts.ensures.rows ∙ unheard_heard s c.args.verdict c.args.self.now.rows.items c.requires.sound.agree c.requires.open_still

pub returns-clause-sound : goal.returns-clause-sound
returns-clause-sound c =
    let t = c.args.self.now in
    let kept = subst (λ pending. IsKept t.rows.items pending (contains spot_cmp t.spots) (places_of t.by_signature) (amount t.counts) (is_entered t.counts)) c.requires.idle c.requires.sound in
    let first = found_first t.rows.items (places_of t.by_signature) c.args.signature.now c.first_hinted.result c.requires.sound.hinted (rw (c.as_slice.ensures.value, c.few-few.ensures.those, c.many-many.ensures.those) at c.first_hinted.ensures) in
    kept_heard _ _ _ _ (record { signature = c.args.signature.now; row = c.in-Some.row }) c.args.verdict (contains spot_cmp t.spots) _ _ (is_entered c.set_verdicts.new.counts)
    c.set_verdicts.ensures.rows c.set_verdicts.ensures.counted c.set_verdicts.ensures.entries (subst (IsFirstOf t.rows.items c.args.signature.now) c.in-Some.is first) c.requires.open_still kept

-- where some row is of a signature, its first row is found
not_none : (rows : List Row) (s : Signature) (o : Option ℕ) → IsFirstOf rows s o → is_raised rows s ≡ true → o ≡ None → ⊥
not_none rows s None first h is = cc
not_none rows s (Some i) first h is = cc

pub returns-in_default-clause-seen : goal.returns-in_default-clause-seen
returns-in_default-clause-seen c =
    let t = c.args.self.now in
    let first = found_first t.rows.items (places_of t.by_signature) c.args.signature.now c.first_hinted.result c.requires.sound.hinted (rw (c.as_slice.ensures.value, c.few-few.ensures.those, c.many-many.ensures.those) at c.first_hinted.ensures) in
    absurd (not_none t.rows.items c.args.signature.now c.first_hinted.result first c.requires.raised (search (rules, c)))

pub returns-in_default-clause-back : goal.returns-in_default-clause-back
returns-in_default-clause-back c =
    let t = c.args.self.now in
    let first = found_first t.rows.items (places_of t.by_signature) c.args.signature.now c.first_hinted.result c.requires.sound.hinted (rw (c.as_slice.ensures.value, c.few-few.ensures.those, c.many-many.ensures.those) at c.first_hinted.ensures) in
    absurd (not_none t.rows.items c.args.signature.now c.first_hinted.result first c.requires.raised (search (rules, c)))
