use Rattle.std.proofs.Common.{◌≡◌, ◌++◌, ◌∷◌, [], length, sym, ◌∙◌, ap, subst, arith}
use Rattle.std.specs.Prelude.{Contains}
use Rattle.escrow.specs.EventIndex.Keys.{numbers_at}
use Rattle.validator_core.specs.Tables.AcceptedLog.Hints.{IsSound, prefix_cmp}
use Rattle.validator_core.specs.Tables.AcceptedLog.Values.{Extends, Log, established}
use Rattle.validator_core.proofs.TablesLemmas.AcceptedLogLemmas.Growth.{grows_by_state}
use Rattle.validator_core.proofs.TablesLemmas.AcceptedLogLemmas.Hinted.{sound_established, sound_more}
use Rattle.validator_core.proofs.TablesLemmas.AcceptedLogLemmas.Extensions.{extends_established}
use Rattle.validator_core.proofs.tables.accepted_log.accepted_log.AcceptedLog.establish.Goals as goal

module _ (c : goal.After-push_reserved-3) where
  abbrev was : Log
  was = record { numbers = c.self.inside.numbers.items; places = c.self.inside.places.items; states = c.self.inside.states.items }

  abbrev now : Log
  now = record { numbers = c.push_reserved.new.self.items; places = c.push_reserved-2.new.self.items; states = c.push_reserved-3.new.self.items }

  place_is : c.in_ok-place.place ≡ length was.states
  place_is = c.in_ok-place.ensures.next

  made : now ≡ established c.args.number c.args.entries c.args.state was
  made =
      let numbers = c.push_reserved.ensures.items ∙ ap (λ xs. xs ++ c.args.number ∷ []) c.in_ok-place.ensures.numbers in
      let places = c.push_reserved-2.ensures.items ∙ ap (λ xs. xs ++ record { state = c.in_ok-place.place; entries = c.args.entries } ∷ []) c.in_ok-place.ensures.places
      ∙ ap (λ k. was.places ++ record { state = k; entries = c.args.entries } ∷ []) place_is in
      let states = c.push_reserved-3.ensures.items ∙ ap (λ xs. xs ++ c.args.state ∷ []) c.in_ok-place.ensures.states in
      λ i. record { numbers = numbers i; places = places i; states = states i }

  made_now : now ≡ established c.args.number c.args.entries c.args.state c.args.self.now
  made_now = made ∙ ap (established c.args.number c.args.entries c.args.state) c.self.view_is

pub invariant_of-self-in_err-add : goal.invariant_of-self-in_err-add
invariant_of-self-in_err-add c =
    let old : Log = record { numbers = c.self.inside.numbers.items; places = c.self.inside.places.items; states = c.self.inside.states.items } in
    let new : Log = record { numbers = c.make_room.new.numbers.items; places = c.make_room.new.places.items; states = c.make_room.new.states.items } in
    let same : new ≡ old = λ i. record { numbers = c.in_ok-place.ensures.numbers i; places = c.in_ok-place.ensures.places i; states = c.in_ok-place.ensures.states i } in
    subst (λ v. IsSound v (numbers_at prefix_cmp c.add.new.self)) (sym same)
    (sound_more (numbers_at prefix_cmp c.self.inside.hints) (numbers_at prefix_cmp c.add.new.self) old c.in_ok-place.place (omega (arith, c.in_ok-place.ensures.next)) c.in_err-add.ensures.kept c.self.invariant)

pub invariant_of-self-2 : goal.invariant_of-self-2
invariant_of-self-2 c =
    let place = place_is c in
    let numbers = numbers_at prefix_cmp c.add.new.self in
    let kept = sound_more (numbers_at prefix_cmp c.self.inside.hints) numbers (was c) c.in_ok-place.place (omega (arith, place)) c.in_ok-add.ensures.kept c.self.invariant in
    let added = subst (λ p. Contains (numbers p) (length c.self.inside.states.items)) (ap (λ s. s.prefix) c.state.view_is) (subst (Contains (numbers c.state.inside.prefix)) place c.in_ok-add.ensures.added) in
    subst (λ (v : Log). IsSound v numbers) (sym (made c)) (sound_established c.args.number c.args.entries c.args.state (was c) numbers added kept)

pub returns-clause-log : goal.returns-clause-log
returns-clause-log c = grows_by_state c.args.number c.args.entries c.args.state c.args.self.now _ (made_now c)

pub returns-clause-extends : goal.returns-clause-extends
returns-clause-extends c =
    let even = subst (λ (v : Log). length v.places ≡ length v.numbers) c.self.view_is c.self.invariant.even in
    subst (Extends c.args.self.now) (sym (made_now c)) (extends_established c.args.number c.args.entries c.args.state c.args.self.now even c.requires.made)
