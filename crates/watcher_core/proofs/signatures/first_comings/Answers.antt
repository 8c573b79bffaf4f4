use Rattle.std.proofs.Common.{◌≡◌, ◌++◌, ◌∷◌, ◌+◌, [], Bool, true, false, not, take, refl, sym, ◌∙◌, ap}
use Rattle.std.specs.BTreeMap.{is_at}
use Rattle.std.specs.BTreeSet.{contains}
use Rattle.std.specs.List.{list_any}
use Rattle.std.proofs.lemmas.List.{take_more}
use Rattle.std.proofs.lemmas.List.Elements.{All-nil, All-push}
use Rattle.cesr_codes.specs.Indexed.{IsIndexed}
use Rattle.journal.specs.Journal.Replies.{same_indexed}
use Rattle.journal.proofs.JournalLemmas.Distinct.{distinct-push_new, distinct-push_old}
use Rattle.key_state.specs.Same.{distinct}
use Rattle.journal_views.proofs.EventPayloadLemmas.Adding.{seen_more}
use Rattle.watcher_core.proofs.Orders.{at_is, sig_cmp}
use Rattle.watcher_core.proofs.signatures.first_comings.Goals as goal
use Rattle.watcher_core.proofs.signatures.first_comings.Goals.{then-branch+in_ok-push, else-branch}

not_true : (b : Bool) → not b ≡ true → b ≡ false
not_true true h = cc
not_true false h = refl

not_false : (b : Bool) → not b ≡ false → b ≡ true
not_false true h = refl
not_false false h = cc

pub loop-sig-init : goal.loop-sig-init
unfolding distinct
loop-sig-init c = record { firsts = c.new-firsts.ensures.items; raw = rw c.new-firsts.ensures.items (All-nil IsIndexed); seen = λ s. rw c.new-seen.ensures.empty refl }

pub loop-sig-preserved : goal.loop-sig-preserved
loop-sig-preserved c =
    let sigs = c.args.sigs.now in
    let k = c.loop-sig.sig-index in
    let sig = c.sig-item.result in
    let so_far = take k sigs in
    let more : take (k + 1) sigs ≡ so_far ++ sig ∷ [] = take_more sigs k sig c.loop-sig-test.true ∙ ap (λ s. so_far ++ s ∷ []) (sym c.sig-item.is) in
    let was = c.loop-sig.invariant in
    let added = c.in_ok-insert.ensures.added in
    record {
      firsts = elim c.if-branch.branch [
        | then-branch+in_ok-push w ↦ (
            ap (λ v. v.items) w.firsts-is ∙ w.in_ok-push.ensures.items ∙ ap (λ xs. xs ++ sig ∷ []) was.firsts
            ∙ sym (distinct-push_new same_indexed sig so_far (sym (was.seen sig) ∙ not_true (contains sig_cmp c.loop-sig.seen sig) (sym added ∙ w.if-branch.true)))
            ∙ ap (distinct same_indexed) (sym more))
        | else-branch w ↦ (
            ap (λ v. v.items) w.firsts-is ∙ was.firsts
            ∙ sym (distinct-push_old same_indexed sig so_far (sym (was.seen sig) ∙ not_false (contains sig_cmp c.loop-sig.seen sig) (sym added ∙ w.if-branch.false)))
            ∙ ap (distinct same_indexed) (sym more))
      ];
      raw = elim c.if-branch.branch [
        | then-branch+in_ok-push w ↦ rw (ap (λ v. v.items) w.firsts-is ∙ w.in_ok-push.ensures.items) (All-push IsIndexed c.loop-sig.firsts.items sig was.raw c.is_indexed.ensures)
        | else-branch w ↦ rw (ap (λ v. v.items) w.firsts-is) was.raw
      ];
      seen = λ s. seen_more same_indexed so_far sig (contains sig_cmp c.loop-sig.seen) (contains sig_cmp c.insert.new.self) (λ t. is_at (sig_cmp sig) t) was.seen (at_is sig) c.in_ok-insert.ensures.updates.0 s
          ∙ ap (list_any (λ t. same_indexed t s)) (sym more);
    }
