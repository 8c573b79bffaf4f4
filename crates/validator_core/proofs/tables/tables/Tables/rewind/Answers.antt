use Rattle.std.proofs.Common.{◌<◌, ◌≤◌, ◌∙◌, ap, arith, subst, sym, take}
use Rattle.std.specs.Prelude.{slice_get}
use Rattle.claim_table.specs.ClaimTable.Table.{KeepsPending}
use Rattle.journal.proofs.JournalLemmas.Places.{all_at}
use Rattle.validator_core.specs.Tables.Inside.{view_of}
use Rattle.validator_core.specs.Tables.View.{View, number_of}
use Rattle.validator_core.proofs.TablesLemmas.Rewound.{cut_even, cut_hinted, cut_pairs, cut_pending, view_cut}
use Rattle.validator_core.proofs.TablesLemmas.Pairs.{length-paired}
use Rattle.validator_core.proofs.tables.tables.Tables.rewind.Goals as goal

pub truncate-requires : goal.truncate-requires
truncate-requires c = subst (λ (v : View). KeepsPending c.args.mark.now.claims v.claims.rows v.claims.pending) (sym c.self.view_is) c.requires.cut.pending_held

pub leave_from-requires : goal.leave_from-requires
leave_from-requires c =
    let t = c.self.inside in let few = c.self.invariant.2.few in let long = length-paired t.journal.bodies t.events.items c.self.invariant.0 in let count = c.len.ensures in let ok = t.events.ok.0 in
    omega (arith, few, long, count, ok)

pub invariant_of-self : goal.invariant_of-self
invariant_of-self c =
    let t = c.self.inside in let m = c.args.mark.now in
    let pairs = cut_pairs m.bodies t.journal.bodies c.truncate-5.new.self t.events.items c.truncate-4.new.self.items c.self.invariant.0 c.truncate-5.ensures c.truncate-4.ensures.items in
    let keeps = subst (λ (v : View). KeepsPending m.claims v.claims.rows v.claims.pending) (sym c.self.view_is) c.requires.cut.pending_held in (
      cut_even m.bodies t.journal.bodies c.truncate-5.new.self t.events.items c.truncate-4.new.self.items c.self.invariant.0 c.truncate-5.ensures c.truncate-4.ensures.items,
      cut_pending m.claims t.claims c.truncate.new.self keeps c.truncate.ensures.rows c.truncate.ensures.pending,
      cut_hinted c.self.invariant.2 m _ c.truncate-3.new.self c.truncate-2.new.self.numbers c.leave_from.new.waiting c.len.result pairs c.truncate-3.ensures (ap (λ l. l.numbers) c.truncate-2.ensures)
          (λ i e at. all_at (λ e. number_of e < m.bodies) (take m.entries c.args.self.now.entries) c.requires.cut.entries_held i e (ap (λ (v : View). slice_get (take m.entries v.entries) i) (sym c.self.view_is) ∙ at))
          (λ i n at. all_at (λ n. n < m.bodies) (take m.accepted c.args.self.now.log.numbers) c.requires.cut.accepted_held i n (ap (λ (v : View). slice_get (take m.accepted v.log.numbers) i) (sym c.self.view_is) ∙ at))
          (subst (λ (v : View). v.released ≤ m.accepted) (sym c.self.view_is) c.requires.cut.released_held)
          (c.len.ensures ∙ t.events.ok.0 ∙ sym (length-paired t.journal.bodies t.events.items c.self.invariant.0)) c.leave_from.ensures,
    )

pub returns : goal.returns
returns c =
    let t = c.self.inside in let m = c.args.mark.now in
    let pairs = cut_pairs m.bodies t.journal.bodies c.truncate-5.new.self t.events.items c.truncate-4.new.self.items c.self.invariant.0 c.truncate-5.ensures c.truncate-4.ensures.items in
    view_cut (view_of t) c.args.self.now m _ c.truncate-3.new.self c.truncate-2.new.self c.truncate.new.self c.self.view_is pairs c.truncate-3.ensures c.truncate-2.ensures c.truncate.ensures.rows c.truncate.ensures.pending
