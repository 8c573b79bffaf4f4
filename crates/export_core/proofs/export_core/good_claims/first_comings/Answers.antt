use Rattle.std.proofs.Common.{◌≡◌, ◌++◌, ◌∷◌, ◌+◌, [], Bool, true, false, not, take, refl, sym, ◌∙◌, ap}
use Rattle.std.specs.BTreeMap.{is_at}
use Rattle.std.specs.BTreeSet.{contains}
use Rattle.std.specs.List.{list_any}
use Rattle.std.proofs.lemmas.List.{take_more}
use Rattle.journal.specs.Journal.Replies.{same_claim}
use Rattle.journal.proofs.JournalLemmas.Distinct.{distinct-push_new, distinct-push_old}
use Rattle.key_state.specs.Same.{distinct}
use Rattle.journal_views.proofs.EventPayloadLemmas.Adding.{seen_more}
use Rattle.export_core.proofs.ExportCoreLemmas.Orders.{claim_at, claim_cmp}
use Rattle.export_core.proofs.export_core.good_claims.first_comings.Goals as goal
use Rattle.export_core.proofs.export_core.good_claims.first_comings.Goals.{then-branch+in_ok-push, else-branch}

not_true : (b : Bool) → not b ≡ true → b ≡ false
not_true true h = cc
not_true false h = refl

not_false : (b : Bool) → not b ≡ false → b ≡ true
not_false true h = refl
not_false false h = cc

pub loop-claim-init : goal.loop-claim-init
unfolding distinct
loop-claim-init c = record { firsts = c.new-firsts.ensures.items; seen = λ s. rw c.new-seen.ensures.empty refl }

pub loop-claim-preserved : goal.loop-claim-preserved
loop-claim-preserved c =
    let claims = c.args.claims.now in
    let k = c.loop-claim.claim-index in
    let claim = c.claim-item.result in
    let so_far = take k claims in
    let more : take (k + 1) claims ≡ so_far ++ claim ∷ [] = take_more claims k claim c.loop-claim-test.true ∙ ap (λ s. so_far ++ s ∷ []) (sym c.claim-item.is) in
    let was = c.loop-claim.invariant in
    let added = c.in_ok-insert.ensures.added in
    record {
      firsts = elim c.if-branch.branch [
        | then-branch+in_ok-push w ↦ (
            ap (λ v. v.items) w.firsts-is ∙ w.in_ok-push.ensures.items ∙ ap (λ xs. xs ++ claim ∷ []) was.firsts
            ∙ sym (distinct-push_new same_claim claim so_far (sym (was.seen claim) ∙ not_true (contains claim_cmp c.loop-claim.seen claim) (sym added ∙ w.if-branch.true)))
            ∙ ap (distinct same_claim) (sym more))
        | else-branch w ↦ (
            ap (λ v. v.items) w.firsts-is ∙ was.firsts
            ∙ sym (distinct-push_old same_claim claim so_far (sym (was.seen claim) ∙ not_false (contains claim_cmp c.loop-claim.seen claim) (sym added ∙ w.if-branch.false)))
            ∙ ap (distinct same_claim) (sym more))
      ];
      seen = λ s. seen_more same_claim so_far claim (contains claim_cmp c.loop-claim.seen) (contains claim_cmp c.insert.new.self) (λ t. is_at (claim_cmp claim) t) was.seen (claim_at claim) c.in_ok-insert.ensures.updates.0 s
          ∙ ap (list_any (λ t. same_claim t s)) (sym more);
    }
