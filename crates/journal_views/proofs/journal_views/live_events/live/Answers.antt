use Rattle.std.proofs.Common.{◌≡◌, ◌<◌, ◌∷◌, ◌++◌, [], ◌∙◌, refl, sym, subst, ap, nat_lt, length, take, true, false, arith, get_or}
use Rattle.std.specs.Prelude.{AllPairs, filter}
use Rattle.std.proofs.lemmas.List.Elements.{All-push, All-filter}
use Rattle.event_body.specs.EventBody.Events.{prefix_of, sn_of}
use Rattle.journal.specs.Journal.Journals.{chosen}
use Rattle.journal.specs.Journal.Logs.{live}
use Rattle.journal_views.specs.JournalViews.Rises.{sn_or, sn_at}
use Rattle.journal_views.proofs.JournalViewsLemmas.Bodies.{body-at, got}
use Rattle.journal_views.proofs.JournalViewsLemmas.Living.{live-other, chosen-next, numbers-more, rising-more}
use Rattle.key_state.specs.Same.{same_prefix}
use Rattle.journal_views.proofs.journal_views.live_events.live.Goals as goal
use Rattle.journal_views.proofs.journal_views.live_events.live.Goals.{then-is_of+in_ok-push, else-is_of}

pub loop-place-init : goal.loop-place-init
unfolding live chosen
loop-place-init c = rw c.new-numbers.ensures.items (record {
  live = λ held are. refl;
  held = λ k d h. absurd (omega (arith, h));
  rising = λ i j d lt h. absurd (omega (arith, h));
})

pub loop-place-preserved : goal.loop-place-preserved
loop-place-preserved c =
    let events = c.args.events.now in
    let accepted = c.args.accepted.now in
    let prefix = c.args.prefix.now in
    let place = c.loop-place.place in
    let n = get_or accepted place 0 in
    let e = c.index-events-number.result in
    let below : n < length events = c.requires place 0 (omega arith) in
    elim c.if-is_of.branch [
      | then-is_of+in_ok-push w ↦ (
          let numbers = c.loop-place.numbers.items in
          let of : same_prefix (prefix_of e) prefix ≡ true = sym c.is_of.ensures ∙ w.if-is_of.true in
          let kept : w.drop_superseded.new.numbers.items ≡ filter (λ n. nat_lt (sn_at events n) (sn_of e)) numbers =
          w.drop_superseded.ensures ∙ ap (λ sn. filter (λ n. nat_lt (sn_at events n) sn) numbers) w.sn.ensures in
          let items : c.if-is_of.numbers.items ≡ w.drop_superseded.new.numbers.items ++ n ∷ [] = ap (λ v. v.items) w.numbers-is ∙ w.in_ok-push.ensures.items in
          record {
            live = λ held are. (
                let b = body-at (λ b. b.event) held events are n e below c.index-events-number.is in
                ap (chosen held) items
                ∙ numbers-more held events are numbers w.drop_superseded.new.numbers.items (chosen held (take place accepted)) prefix n b.0 b.1
                (ap (λ e. same_prefix (prefix_of e) prefix) b.2 ∙ of) (c.loop-place.invariant.live held are)
                (kept ∙ ap (λ e. filter (λ n. nat_lt (sn_at events n) (sn_of e)) numbers) (sym b.2))
                ∙ sym (ap (λ bs. live bs prefix) (chosen-next held accepted place b.0 (omega arith) b.1)));
            held = rw (items, kept) (All-push (λ n. n < length events) _ n (All-filter _ (λ n. n < length events) _ c.loop-place.invariant.held) below);
            rising = subst (AllPairs (λ m n. sn_at events m < sn_at events n)) (sym (items ∙ ap (λ xs. xs ++ n ∷ []) kept))
                (rising-more (sn_at events) numbers (sn_of e) c.loop-place.invariant.rising n (ap sn_or (got events n e below c.index-events-number.is)));
          })
      | else-is_of w ↦ (
          let other : same_prefix (prefix_of e) prefix ≡ false = sym c.is_of.ensures ∙ w.if-is_of.false in
          let items : c.if-is_of.numbers.items ≡ c.loop-place.numbers.items = ap (λ v. v.items) w.numbers-is in
          record {
            live = λ held are. (
                let b = body-at (λ b. b.event) held events are n e below c.index-events-number.is in
                ap (chosen held) items ∙ c.loop-place.invariant.live held are
                ∙ sym (ap (λ bs. live bs prefix) (chosen-next held accepted place b.0 (omega arith) b.1)
                ∙ live-other (chosen held (take place accepted)) prefix b.0 (ap (λ e. same_prefix (prefix_of e) prefix) b.2 ∙ other)));
            held = rw items c.loop-place.invariant.held;
            rising = rw items c.loop-place.invariant.rising;
          })
    ]
