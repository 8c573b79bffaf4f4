use Rattle.std.proofs.Common.{◌<◌, ◌+◌, ◌^◌, ◌∙◌, ap, arith, length, refl, subst, sym, inl, inr, ◌≡◌, false}
use Rattle.std.specs.Prelude.{IfSome, slice_get}
use Rattle.std.specs.Result.{OnOk}
use Rattle.std.proofs.lemmas.Result.{on_err_weaker, on_ok_weaker}
use Rattle.validator_core.specs.Tables.AcceptedLog.Cuts.{GrowsByInteraction}
use Rattle.validator_core.specs.Tables.AcceptedLog.Values.{Extends, interacted, last_of, last_place}
use Rattle.event_body.specs.EventBody.Events.{prefix_of, said_of}
use Rattle.journal.proofs.JournalLemmas.Places.{some_at}
use Rattle.key_state.specs.Heads.{head_sn}
use Rattle.validator_core.specs.Tables.Hints.{IsNameNew}
use Rattle.validator_core.specs.Tables.Inside.{held_in, view_of}
use Rattle.validator_core.specs.Tables.NamedPlaces.{places_at}
use Rattle.validator_core.specs.Tables.Names.{name_of}
use Rattle.validator_core.specs.Tables.View.{View}
use Rattle.validator_core.proofs.TablesLemmas.LastAccepted.{none_accepted, numbers_gone_onto, on_both, one_accepted, view_accepted, view_same}
use Rattle.validator_core.proofs.TablesLemmas.LastEntry.{on_err}
use Rattle.validator_core.proofs.TablesLemmas.Found.{name_is_new}
use Rattle.validator_core.proofs.TablesLemmas.Pairs.{event_at, event_is, length-paired}
use Rattle.validator_core.proofs.tables.tables.Tables.interact.Goals as goal

pub index-event-requires : goal.index-event-requires
index-event-requires c =
    let t = c.self.inside in
    let held = subst (λ (v : View). c.args.number < length v.held) (sym c.self.view_is) c.requires.held in
    let long = length-paired t.journal.bodies t.events.items c.self.invariant.0 in let ok = t.events.ok.0 in
    omega (arith, held, long, ok)

pub invariant_of-self : goal.invariant_of-self
invariant_of-self c =
    (c.self.invariant.0, c.self.invariant.1, none_accepted c.self.invariant.2 _ _ _ c.len.ensures.numbers c.note_next.ensures.kept c.note_next.ensures.kept_sealed c.clashes_with-self-inside.result c.clashes_with-self-inside.ensures.before _ refl)

pub returns-in_err-entries-clause-err : goal.returns-in_err-entries-clause-err
returns-in_err-entries-clause-err c = on_err c.from_residual.result c.self.view_is

pub interact-requires : goal.interact-requires
interact-requires c =
    let t = c.self.inside in
    let b = some_at (held_in t) c.args.number (subst (λ (v : View). c.args.number < length v.held) (sym c.self.view_is) c.requires.held) in
    let event = event_is t.journal.bodies t.events.items c.self.invariant.0 c.args.number c.index-event.result.now b.0 c.index-event.ensures b.1 in
    let room = c.requires.room b.0 (ap (λ (v : View). slice_get v.held c.args.number) (sym c.self.view_is) ∙ b.1) in
    record {
      room = subst (λ p. IfSome (last_of p t.log.states) (λ s. head_sn s + 1 < 2 ^ 64)) (ap prefix_of event ∙ sym c.prefix.ensures)
          (subst (λ (v : View). IfSome (last_of (prefix_of b.0.event) v.log.states) (λ s. head_sn s + 1 < 2 ^ 64)) (sym c.self.view_is) room);
    }

pub invariant_of-self-2 : goal.invariant_of-self-2
invariant_of-self-2 c =
    let t = c.self.inside in
    let b = some_at (held_in t) c.args.number (subst (λ (v : View). c.args.number < length v.held) (sym c.self.view_is) c.requires.held) in
    let event = event_is t.journal.bodies t.events.items c.self.invariant.0 c.args.number c.index-event.result.now b.0 c.index-event.ensures b.1 in
    let fresh : c.clashes_with-self-inside.result ≡ false → IsNameNew (held_in t) t.log.numbers (name_of c.index-event.result.now) = λ now. name_is_new c.self.invariant.2 t.events.items (event_at t.journal.bodies t.events.items c.self.invariant.0) (name_of c.index-event.result.now)
    c.as_slice.result.now c.numbers.result.now (places_at t.accepted (name_of c.index-event.result.now)) c.as_slice.ensures.value c.numbers.ensures refl (c.clashes_with-self-inside.ensures.new now) in (
      c.self.invariant.0,
      c.self.invariant.1,
      on_both c.interact.result c.interact.ensures.ok c.interact.ensures.err
          (λ made. elim (numbers_gone_onto c.args.number c.in_ok-entries.entries c.said.result (last_place c.prefix.result t.log.states) t.log) [
            | inl more ↦ one_accepted c.self.invariant.2 _ _ _ c.len.ensures.numbers c.note_next.ensures.kept c.note_next.ensures.kept_sealed c.clashes_with-self-inside.result c.clashes_with-self-inside.ensures.before b.0 c.args.number c.index-event.result.now b.1 event
                c.in_ok-entries.ensures.named c.in_ok-entries.ensures.sealed fresh _ (ap (λ l. l.numbers) made ∙ more)
            | inr same ↦ none_accepted c.self.invariant.2 _ _ _ c.len.ensures.numbers c.note_next.ensures.kept c.note_next.ensures.kept_sealed c.clashes_with-self-inside.result c.clashes_with-self-inside.ensures.before _ (ap (λ l. l.numbers) made ∙ same)
          ])
          (λ same. none_accepted c.self.invariant.2 _ _ _ c.len.ensures.numbers c.note_next.ensures.kept c.note_next.ensures.kept_sealed c.clashes_with-self-inside.result c.clashes_with-self-inside.ensures.before _ (ap (λ l. l.numbers) same)),
    )

pub returns-clause-ok : goal.returns-clause-ok
returns-clause-ok c =
    let t = c.self.inside in let entries = c.in_ok-entries.ensures.entries ∙ c.len-2.ensures in
    on_ok_weaker c.interact.result
    (λ made b at.
    let event = event_is t.journal.bodies t.events.items c.self.invariant.0 c.args.number c.index-event.result.now b c.index-event.ensures (ap (λ (v : View). slice_get v.held c.args.number) c.self.view_is ∙ at) in
    let prefix = c.prefix.ensures ∙ ap prefix_of (sym event) in let said = c.said.ensures ∙ ap said_of (sym event) in
    view_accepted (view_of t) c.args.self.now c.interact.new.self (λ v. interacted c.args.number (length v.entries) (prefix_of b.event) (said_of b.event) v.log) c.self.view_is
    (made ∙ (λ i. interacted c.args.number (entries i) (prefix i) (said i) t.log))) c.interact.ensures.ok

pub returns-clause-grows : goal.returns-clause-grows
returns-clause-grows c =
    let t = c.self.inside in
    on_ok_weaker c.interact.result
    (λ grows b at.
    let event = event_is t.journal.bodies t.events.items c.self.invariant.0 c.args.number c.index-event.result.now b c.index-event.ensures (ap (λ (v : View). slice_get v.held c.args.number) c.self.view_is ∙ at) in
    let prefix = c.prefix.ensures ∙ ap prefix_of (sym event) in let said = c.said.ensures ∙ ap said_of (sym event) in
    subst (λ (v : View). GrowsByInteraction (prefix_of b.event) (said_of b.event) v.log c.interact.new.self) c.self.view_is
    (subst (λ p. GrowsByInteraction p (said_of b.event) t.log c.interact.new.self) prefix (subst (λ d. GrowsByInteraction c.prefix.result d t.log c.interact.new.self) said grows))) c.interact.ensures.log

pub returns-clause-extends : goal.returns-clause-extends
returns-clause-extends c = subst (λ (v : View). OnOk c.interact.result (Extends v.log c.interact.new.self)) c.self.view_is c.interact.ensures.extends

pub returns-clause-err : goal.returns-clause-err
returns-clause-err c = on_err_weaker c.interact.result (λ same. view_same (view_of c.self.inside) c.args.self.now c.interact.new.self c.self.view_is same) c.interact.ensures.err
