use Rattle.std.proofs.Common.{◌<◌, arith, length, refl, subst, sym}
use Rattle.std.specs.Prelude.{Contains}
use Rattle.escrow.specs.EventIndex.Keys.{numbers_at}
use Rattle.journal.proofs.JournalLemmas.Places.{some_at}
use Rattle.validator_core.specs.Tables.ClaimEntries.{came_at}
use Rattle.validator_core.specs.Tables.Hints.{KeepsBelow}
use Rattle.validator_core.specs.Tables.Inside.{held_in, view_of}
use Rattle.validator_core.specs.Tables.Names.{claim_key, name_of}
use Rattle.validator_core.specs.Tables.View.{View}
use Rattle.validator_core.proofs.TablesLemmas.LastEntry.{on_err, view_entered, view_kept}
use Rattle.validator_core.proofs.TablesLemmas.Hints.{hinted_kept, hinted_took, keeps_itself}
use Rattle.validator_core.proofs.TablesLemmas.Orders.{name_cmp}
use Rattle.validator_core.proofs.TablesLemmas.Pairs.{event_is, length-paired}
use Rattle.validator_core.proofs.tables.tables.Tables.push_took.Goals as goal

pub index-requires : goal.index-requires
index-requires c =
    let t = c.self.inside in
    let held = subst (λ (v : View). c.args.body < length v.held) (sym c.self.view_is) c.requires.held in
    let long = length-paired t.journal.bodies t.events.items c.self.invariant.0 in let ok = t.events.ok.0 in
    omega (arith, held, long, ok)

pub invariant_of-self : goal.invariant_of-self
invariant_of-self c =
    let t = c.self.inside in
    let told = subst (λ k. KeepsBelow k (numbers_at name_cmp t.told) (numbers_at name_cmp c.note_took.new.told)) c.len.ensures c.note_took.ensures.kept_told in
    let came = subst (λ k. KeepsBelow k (came_at t.came) (came_at c.note_took.new.came)) c.len.ensures c.note_took.ensures.kept_came in
    (c.self.invariant.0, c.self.invariant.1, hinted_kept c.self.invariant.2 _ _ _ _ _ _ (λ n. refl) (keeps_itself _ _) told (keeps_itself _ _) came (keeps_itself _ _))

pub returns-in_err-note_took-clause-err : goal.returns-in_err-note_took-clause-err
returns-in_err-note_took-clause-err c = on_err c.from_residual.result c.self.view_is

pub invariant_of-self-in_err-push : goal.invariant_of-self-in_err-push
invariant_of-self-in_err-push c =
    let t = c.self.inside in
    let told = subst (λ k. KeepsBelow k (numbers_at name_cmp t.told) (numbers_at name_cmp c.note_took.new.told)) c.len.ensures c.note_took.ensures.kept_told in
    let came = subst (λ k. KeepsBelow k (came_at t.came) (came_at c.note_took.new.came)) c.len.ensures c.note_took.ensures.kept_came in
    rw c.in_err-push.ensures.err (c.self.invariant.0, c.self.invariant.1, hinted_kept c.self.invariant.2 _ _ _ _ _ _ (λ n. refl) (keeps_itself _ _) told (keeps_itself _ _) came (keeps_itself _ _))

pub returns-in_err-push-clause-err : goal.returns-in_err-push-clause-err
returns-in_err-push-clause-err c = on_err c.from_residual-in_err-push.result (view_kept (view_of c.self.inside) c.args.self.now c.push.new.self c.self.view_is c.in_err-push.ensures.err)

pub invariant_of-self-2 : goal.invariant_of-self-2
invariant_of-self-2 c =
    let t = c.self.inside in let count = c.len.ensures in
    let told = subst (λ k. KeepsBelow k (numbers_at name_cmp t.told) (numbers_at name_cmp c.note_took.new.told)) count c.note_took.ensures.kept_told in
    let came = subst (λ k. KeepsBelow k (came_at t.came) (came_at c.note_took.new.came)) count c.note_took.ensures.kept_came in
    let b = some_at (held_in t) c.args.body (subst (λ (v : View). c.args.body < length v.held) (sym c.self.view_is) c.requires.held) in
    let event = event_is t.journal.bodies t.events.items c.self.invariant.0 c.args.body c.index.result.now b.0 c.index.ensures b.1 in
    let added = subst (λ e. Contains (numbers_at name_cmp c.note_took.new.told (name_of e)) (length t.journal.entries)) (sym event)
    (subst (Contains (numbers_at name_cmp c.note_took.new.told (name_of c.index.result.now))) count c.in_ok-note_took.ensures.told) in
    rw c.in_ok-push.ensures.ok (
      c.self.invariant.0,
      c.self.invariant.1,
      hinted_took c.self.invariant.2 b.0 c.args.reader c.args.body c.args.claims _ _ b.1 added told
          (λ x in_it. subst (Contains (came_at c.note_took.new.came (claim_key c.args.body x))) count (c.in_ok-note_took.ensures.came x (subst (λ xs. Contains xs x) (sym c.as_slice.ensures) in_it))) came,
    )

pub returns-clause-ok : goal.returns-clause-ok
returns-clause-ok c = view_entered (view_of c.self.inside) c.args.self.now c.push.new.self _ c.self.view_is c.in_ok-push.ensures.ok
