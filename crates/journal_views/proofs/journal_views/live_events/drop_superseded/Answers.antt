use Rattle.std.proofs.Common.{◌∙◌, sym, subst, ap, take, rules, of_calls, arith}
use Rattle.std.specs.Prelude.{AllPairs, ◌<◌, filter, nat_lt}
use Rattle.std.proofs.lemmas.Fn.{always_returns_same}
use Rattle.journal_views.specs.JournalViews.Rises.{sn_at}
use Rattle.journal_views.proofs.JournalViewsLemmas.Living.{filter-point, parted}
use Rattle.journal_views.proofs.journal_views.live_events.drop_superseded.Goals as goal

pub returns : goal.returns
returns c =
    let events = c.args.events.now in
    let numbers = c.args.numbers.now.items in
    let same = c.as_slice.ensures.value in
    let kept = c.partition_point-kept.result in
    let rising = subst (AllPairs (λ m n. sn_at events m < sn_at events n)) (sym same) c.requires in
    let point = c.partition_point-kept.ensures.partitioned (λ n. nat_lt (sn_at events n) c.args.sn) (always_returns_same _ _ _ (λ a r f k. search (rules, of_calls)))
    (parted (sn_at events) c.as_slice.result.now c.args.sn rising) in
    c.truncate.ensures.items ∙ ap (take kept) (sym same)
    ∙ sym (filter-point (λ n. nat_lt (sn_at events n) c.args.sn) c.as_slice.result.now kept (λ k d h l. point.0 k d (omega arith) h) (λ k d h l. point.1 k d h l))
    ∙ ap (filter (λ n. nat_lt (sn_at events n) c.args.sn)) same
