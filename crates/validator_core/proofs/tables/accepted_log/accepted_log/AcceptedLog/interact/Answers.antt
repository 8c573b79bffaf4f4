use Rattle.std.proofs.Common.{◌≡◌, ◌<◌, ◌++◌, ◌∷◌, [], length, None, Some, sym, ◌∙◌, ap, subst}
use Rattle.std.specs.Prelude.{slice_get, IfSome}
use Rattle.escrow.specs.EventIndex.Keys.{numbers_at}
use Rattle.validator_core.specs.Tables.AcceptedLog.Hints.{IsSound, prefix_cmp}
use Rattle.validator_core.specs.Tables.AcceptedLog.Values.{Extends, Log, gone_onto, last_place}
use Rattle.validator_core.proofs.TablesLemmas.AcceptedLogLemmas.Growth.{grows_by_interaction}
use Rattle.validator_core.proofs.TablesLemmas.AcceptedLogLemmas.Hinted.{sound_gone_onto}
use Rattle.validator_core.proofs.TablesLemmas.AcceptedLogLemmas.Last.{place_within, there}
use Rattle.validator_core.proofs.TablesLemmas.AcceptedLogLemmas.Extensions.{extends_interacted}
use Rattle.validator_core.proofs.tables.accepted_log.accepted_log.AcceptedLog.interact.Goals as goal

pub returns-in_default-clause-log : goal.returns-in_default-clause-log
returns-in_default-clause-log c =
    let v = c.args.self.now in
    let none : None ≡ last_place c.args.prefix.now v.states = c.in_default.ensures in
    grows_by_interaction c.args.number c.args.entries c.args.prefix.now c.args.said v v (ap (λ o. gone_onto c.args.number c.args.entries c.args.said o v) none)

pub go_onto-requires-clause-there : goal.go_onto-requires-clause-there
go_onto-requires-clause-there c =
    subst (λ (v : Log). c.in-Some.state < length v.states) (sym c.self.view_is)
    (place_within c.args.prefix.now c.args.self.now.states c.in-Some.state (sym c.in-Some.ensures))

module _ (c : goal.After-push_reserved-2) where
  abbrev was : Log
  was = record { numbers = c.self.inside.numbers.items; places = c.self.inside.places.items; states = c.self.inside.states.items }

  abbrev now : Log
  now = record { numbers = c.push_reserved.new.self.items; places = c.push_reserved-2.new.self.items; states = c.go_onto.new.states.items }

  made : now ≡ gone_onto c.args.number c.args.entries c.args.said (Some c.in-Some.state) was
  made =
      let numbers = c.push_reserved.ensures.items ∙ ap (λ xs. xs ++ c.args.number ∷ []) c.in_ok-reserve.ensures.items in
      let places = c.push_reserved-2.ensures.items ∙ ap (λ xs. xs ++ record { state = c.in-Some.state; entries = c.args.entries } ∷ []) c.in_ok-reserve-2.ensures.items in
      let states = c.in_ok-go_onto.ensures.ok in
      λ i. record { numbers = numbers i; places = places i; states = states i }

  made_now : now ≡ gone_onto c.args.number c.args.entries c.args.said (Some c.in-Some.state) c.args.self.now
  made_now = made ∙ ap (gone_onto c.args.number c.args.entries c.args.said (Some c.in-Some.state)) c.self.view_is

pub invariant_of-self-2 : goal.invariant_of-self-2
invariant_of-self-2 c =
    let numbers = numbers_at prefix_cmp c.self.inside.hints in
    subst (λ (v : Log). IsSound v numbers) (sym (made c)) (sound_gone_onto c.args.number c.args.entries c.args.said c.in-Some.state (was c) numbers c.self.invariant)

pub returns-clause-log : goal.returns-clause-log
returns-clause-log c =
    let v = c.args.self.now in
    grows_by_interaction c.args.number c.args.entries c.args.prefix.now c.args.said v _ (made_now c ∙ ap (λ o. gone_onto c.args.number c.args.entries c.args.said o v) c.in-Some.ensures)

pub returns-clause-extends : goal.returns-clause-extends
returns-clause-extends c =
    let v = c.args.self.now in
    let even = subst (λ (v : Log). length v.places ≡ length v.numbers) c.self.view_is c.self.invariant.even in
    let state = there c.args.prefix.now v.states c.in-Some.state (sym c.in-Some.ensures) in
    let seen = c.in_ok-go_onto.ensures.made in
    let some = subst (λ (v : Log). IfSome (slice_get v.states c.in-Some.state) (λ s. 0 < length s.since)) c.self.view_is seen in
    subst (Extends v) (sym (made_now c)) (extends_interacted c.args.number c.args.entries c.args.said c.in-Some.state state.state v even state.at (rw state.at at some))
