use Rattle.std.proofs.Common.{◌≡◌, ◌∙◌, ap, length, subst, sym}
use Rattle.std.specs.Prelude.{IfOk}
use Rattle.escrow.specs.EventIndex.Keys.{numbers_at}
use Rattle.validator_core.specs.Tables.Hints.{KeepsBelow}
use Rattle.validator_core.specs.Tables.Inside.{held_in, view_of}
use Rattle.validator_core.specs.Tables.View.{View}
use Rattle.validator_core.proofs.TablesLemmas.LastAccepted.{on_both}
use Rattle.validator_core.proofs.TablesLemmas.LastBody.{both_err, both_ok, hinted_pushed, pushed_even, pushed_pairs, view_pushed}
use Rattle.validator_core.proofs.TablesLemmas.Hints.{hinted_kept, keeps_itself}
use Rattle.validator_core.proofs.TablesLemmas.Orders.{name_cmp}
use Rattle.validator_core.proofs.TablesLemmas.Pairs.{length-paired}
use Rattle.validator_core.proofs.TablesLemmas.Waiters.{next_free}
use Rattle.std.proofs.lemmas.Result.{on_err_weaker, on_ok_weaker}
use Rattle.validator_core.proofs.tables.tables.Tables.push_body.Goals as goal

pub push_next-requires : goal.push_next-requires
push_next-requires c =
    let t = c.self.inside in
    record { new = next_free t.waiting (held_in t) _ _ c.self.invariant.2.escrow (sym (length-paired t.journal.bodies t.events.items c.self.invariant.0)) }

pub invariant_of-self : goal.invariant_of-self
invariant_of-self c =
    let t = c.self.inside in
    let long = sym (length-paired t.journal.bodies t.events.items c.self.invariant.0) in
    let r = c.push_next.result in
    on_both r (both_ok _ _ r c.push_next.ensures.ok (both_ok _ _ r c.push_next.ensures.pushed (both_ok _ _ r c.push_next.ensures.few (both_ok _ _ r c.push_next.ensures.named c.push_next.ensures.waits))))
    (both_err _ _ r c.push_next.ensures.err (both_err _ _ r c.push_next.ensures.same c.push_next.ensures.waits_on))
    (λ made. (
      pushed_even t.journal.bodies _ t.events.items _ c.args.body.bytes c.args.body.event c.self.invariant.0 made.0 made.1.0,
      c.self.invariant.1,
      hinted_pushed c.self.invariant.2 c.args.body _ _ _ _ (pushed_pairs t.journal.bodies _ t.events.items _ c.args.body.bytes c.args.body.event c.self.invariant.0 made.0 made.1.0) long
          made.1.1.0 made.1.1.1.0 c.push_next.ensures.kept made.1.1.1.1,
    ))
    (λ same.
    let bodies = same.0 in let events = same.1.0 in
    let kept = subst (λ k. KeepsBelow k (numbers_at name_cmp t.names) (numbers_at name_cmp c.push_next.new.names)) long c.push_next.ensures.kept in
    rw (events, bodies)
    (c.self.invariant.0, c.self.invariant.1, hinted_kept c.self.invariant.2 _ _ _ _ _ _ same.1.1 kept (keeps_itself _ _) (keeps_itself _ _) (keeps_itself _ _) (keeps_itself _ _)))

pub returns-clause-ok : goal.returns-clause-ok
returns-clause-ok c =
    let t = c.self.inside in let r = c.push_next.result in
    on_ok_weaker r
    (λ made. view_pushed (view_of t) c.args.self.now _ c.args.body c.self.view_is
    (pushed_pairs t.journal.bodies _ t.events.items _ c.args.body.bytes c.args.body.event c.self.invariant.0 made.0 made.1))
    (both_ok _ _ r c.push_next.ensures.ok c.push_next.ensures.pushed)

pub returns-clause-err : goal.returns-clause-err
returns-clause-err c =
    let r = c.push_next.result in
    on_err_weaker r (λ same. let bodies = same.0 in let events = same.1 in rw (events, bodies) c.self.view_is) (both_err _ _ r c.push_next.ensures.err c.push_next.ensures.same)

pub returns-clause-number : goal.returns-clause-number
returns-clause-number c =
    let t = c.self.inside in
    let long = sym (length-paired t.journal.bodies t.events.items c.self.invariant.0) in
    subst (λ k. IfOk c.push_next.result (λ n. n ≡ k)) (long ∙ ap (λ (v : View). length v.held) c.self.view_is) c.push_next.ensures.number
