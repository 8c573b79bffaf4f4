use Rattle.std.proofs.Common.{◌<◌, ◌∙◌, ap, arith, length, refl, subst, sym, ◌≡◌, false}
use Rattle.std.specs.Result.{OnOk}
use Rattle.std.proofs.lemmas.Result.{on_err_weaker, on_ok_weaker}
use Rattle.validator_core.specs.Tables.AcceptedLog.Cuts.{GrowsByState}
use Rattle.validator_core.specs.Tables.AcceptedLog.Values.{Extends, established}
use Rattle.journal.proofs.JournalLemmas.Places.{some_at}
use Rattle.validator_core.specs.Tables.Hints.{IsNameNew}
use Rattle.validator_core.specs.Tables.Inside.{held_in, view_of}
use Rattle.validator_core.specs.Tables.NamedPlaces.{places_at}
use Rattle.validator_core.specs.Tables.Names.{name_of}
use Rattle.validator_core.specs.Tables.View.{View}
use Rattle.validator_core.proofs.TablesLemmas.LastAccepted.{none_accepted, on_both, one_accepted, view_accepted, view_same}
use Rattle.validator_core.proofs.TablesLemmas.Found.{name_is_new}
use Rattle.validator_core.proofs.TablesLemmas.Pairs.{event_at, event_is, length-paired}
use Rattle.validator_core.proofs.tables.tables.Tables.establish.Goals as goal

pub index-event-requires : goal.index-event-requires
index-event-requires c =
    let t = c.self.inside in
    let held = subst (λ (v : View). c.args.number < length v.held) (sym c.self.view_is) c.requires.held in
    let long = length-paired t.journal.bodies t.events.items c.self.invariant.0 in let ok = t.events.ok.0 in
    omega (arith, held, long, ok)

pub invariant_of-self-in-Err : goal.invariant_of-self-in-Err
invariant_of-self-in-Err c =
    (c.self.invariant.0, c.self.invariant.1, none_accepted c.self.invariant.2 _ _ _ c.len.ensures.numbers c.note_next-noted.ensures.kept c.note_next-noted.ensures.kept_sealed c.clashes_with-self-inside.result c.clashes_with-self-inside.ensures.before _ refl)

pub returns-in-Err-clause-err : goal.returns-in-Err-clause-err
returns-in-Err-clause-err c = c.self.view_is

pub invariant_of-self : goal.invariant_of-self
invariant_of-self c =
    let t = c.self.inside in
    let b = some_at (held_in t) c.args.number (subst (λ (v : View). c.args.number < length v.held) (sym c.self.view_is) c.requires.held) in
    let event = event_is t.journal.bodies t.events.items c.self.invariant.0 c.args.number c.index-event.result.now b.0 c.index-event.ensures b.1 in
    let fresh : c.clashes_with-self-inside.result ≡ false → IsNameNew (held_in t) t.log.numbers (name_of c.index-event.result.now) = λ now. name_is_new c.self.invariant.2 t.events.items (event_at t.journal.bodies t.events.items c.self.invariant.0) (name_of c.index-event.result.now)
    c.as_slice.result.now c.numbers.result.now (places_at t.accepted (name_of c.index-event.result.now)) c.as_slice.ensures.value c.numbers.ensures refl (c.clashes_with-self-inside.ensures.new now) in (
      c.self.invariant.0,
      c.self.invariant.1,
      on_both c.establish.result c.establish.ensures.ok c.establish.ensures.err
          (λ made. one_accepted c.self.invariant.2 _ _ _ c.len.ensures.numbers c.note_next-noted.ensures.kept c.note_next-noted.ensures.kept_sealed c.clashes_with-self-inside.result c.clashes_with-self-inside.ensures.before b.0 c.args.number c.index-event.result.now b.1 event
          c.in-Ok.ensures.named c.in-Ok.ensures.sealed fresh _ (ap (λ l. l.numbers) made))
          (λ same. none_accepted c.self.invariant.2 _ _ _ c.len.ensures.numbers c.note_next-noted.ensures.kept c.note_next-noted.ensures.kept_sealed c.clashes_with-self-inside.result c.clashes_with-self-inside.ensures.before _ (ap (λ l. l.numbers) same)),
    )

pub returns-in-Ok-clause-ok : goal.returns-in-Ok-clause-ok
returns-in-Ok-clause-ok c =
    let t = c.self.inside in let entries = c.in-Ok.ensures.entries ∙ c.len-2.ensures in
    on_ok_weaker c.establish.result
    (λ made. view_accepted (view_of t) c.args.self.now c.establish.new.self (λ v. established c.args.number (length v.entries) c.args.state v.log) c.self.view_is
    (made ∙ ap (λ k. established c.args.number k c.args.state t.log) entries)) c.establish.ensures.ok

pub returns-in-Ok-clause-grows : goal.returns-in-Ok-clause-grows
returns-in-Ok-clause-grows c = subst (λ (v : View). OnOk c.establish.result (GrowsByState c.args.state v.log c.establish.new.self)) c.self.view_is c.establish.ensures.log

pub returns-in-Ok-clause-extends : goal.returns-in-Ok-clause-extends
returns-in-Ok-clause-extends c = subst (λ (v : View). OnOk c.establish.result (Extends v.log c.establish.new.self)) c.self.view_is c.establish.ensures.extends

pub returns-in-Ok-clause-err : goal.returns-in-Ok-clause-err
returns-in-Ok-clause-err c = on_err_weaker c.establish.result (λ same. view_same (view_of c.self.inside) c.args.self.now c.establish.new.self c.self.view_is same) c.establish.ensures.err
