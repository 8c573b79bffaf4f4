use Rattle.std.proofs.Common.{◌≡◌, ◌<◌, ◌∙◌, sym, subst, length, rules, is_lt, eqb, All}
use Rattle.std.specs.Cmp.{IsTotalOrder}
use Rattle.std.specs.List.Sorted.{IsSorted, IsPermutation}
use Rattle.std.proofs.lemmas.Fn.{always_returns_same}
use Rattle.std.proofs.lemmas.List.Filters.{dedup_is, All-dedup}
use Rattle.std.proofs.lemmas.List.Kept.{IsStrictlySortedBy-dedup, Contains-dedup_nat, Contains-from_dedup}
use Rattle.std.proofs.lemmas.List.Sorted.{ranks_by, All-permutation, Contains-permutation, IsPermutation-sym}
use Rattle.journal_views.specs.JournalViews.Rankings.{number_cmp, spelled_cmp}
use Rattle.journal_views.proofs.JournalViewsLemmas.Orders.{number_total, number_ties, spelled_is}
use Rattle.journal_views.proofs.JournalViewsLemmas.Numbers.{pairs}
use Rattle.journal_views.proofs.journal_views.conflicts.in_order.Goals as goal

pub returns : goal.returns
returns c =
    let bodies = c.args.bodies.now in
    let events = c.args.events.now in
    let counted = c.args.counted.now in
    let moved : IsPermutation counted c.sort_by.new.self.items = rw (← c.in_ok-numbers.ensures.items) c.in_ok-sort_by.ensures.permutation in
    let texts = c.as_slice-texts.result.now in
    let spelled : spelled_cmp texts bodies events ≡ number_cmp bodies events = spelled_is texts bodies events (c.as_slice-texts.ensures.value ∙ c.in_ok-texts.ensures) in
    let total = subst IsTotalOrder (sym spelled) (number_total bodies events) in
    let by_text : IsSorted (spelled_cmp texts bodies events) c.sort_by.new.self.items =
    c.in_ok-sort_by.ensures.sorted (λ m n. is_lt (spelled_cmp texts bodies events m n)) (ranks_by total (λ n. n)) (always_returns_same _ _ _ (λ a r f k. search rules)) in
    let sorted = subst (λ cmp. IsSorted cmp c.sort_by.new.self.items) spelled by_text in
    let is = dedup_is _ _ _ c.dedup.ensures.filtered in
    let all : All (λ n. n < length bodies) c.dedup.new.self.items = rw is (All-dedup eqb (λ n. n < length bodies) _ (All-permutation (λ n. n < length bodies) _ _ moved c.requires.held)) in
    record {
      rising = pairs (number_cmp bodies events) c.dedup.new.self.items (rw is (IsStrictlySortedBy-dedup (number_total bodies events) (number_ties bodies events) _ sorted));
      same = λ n. (
        λ h. Contains-permutation _ _ n (IsPermutation-sym _ _ moved) (Contains-from_dedup eqb _ n (rw is at h)),
        λ h. rw is (Contains-dedup_nat _ n (Contains-permutation _ _ n moved h)),
      );
      held = all;
    }
