use Rattle.std.proofs.Common.{◌≡◌, ◌+◌, ◌∙◌, sym, ap, false, true, length, rules}
use Rattle.std.specs.Prelude.{filter, not, slice_get, take}
use Rattle.key_state.specs.KeyStates.{changed_list}
use Rattle.key_state.specs.Same.{has_key}
use Rattle.journal.specs.EventRules.Claims.{has_this}
use Rattle.journal.proofs.EventRulesLemmas.KeyPlaces.{filter_few}
use Rattle.journal.proofs.EventRulesLemmas.ChangedPlaces.{added_at, cut_not_added, left_at, never_there, place_within}
use Rattle.journal.proofs.event_rules.witness_list.changed_place.Goals.{then-not-has_key+in_default, else-not-has_key}
use Rattle.journal.proofs.event_rules.witness_list.changed_place.Goals as goal

pub returns-in-Some-clause-found : goal.returns-in-Some-clause-found
returns-in-Some-clause-found c =
    let old = c.args.old.now in
    let e = c.args.event.now in
    let key = c.args.key.now in
    let place = c.in-Some.place in
    let left : c.left_count.result ≡ length (filter (λ k. not (has_key e.cuts k)) (take place old)) =
    c.left_count.ensures ∙ ap (λ cuts. length (filter (λ k. not (has_key cuts k)) (take place old))) c.as_slice-cuts.ensures in
    let free : has_key e.cuts key ≡ false = ap (λ cuts. has_key cuts key) (sym c.as_slice-cuts.ensures) ∙ sym c.has_key.ensures ∙ c.if-not-has_key.true in
    ap (λ n. has_this (slice_get (changed_list old e) n) key) left ∙ left_at old e key place free c.in-Some.ensures.found

pub returns-in_err-place-clause-none : goal.returns-in_err-place-clause-none
returns-in_err-place-clause-none c =
    let old = c.args.old.now in
    let e = c.args.event.now in
    let key = c.args.key.now in
    let unadded : has_key e.adds key ≡ false = ap (λ adds. has_key adds key) (sym c.as_slice.ensures) ∙ c.in_err-place.ensures.none in
    let absent : has_key (changed_list old e) key ≡ false = elim c.if-not-has_key.branch [
      | then-not-has_key+in_default w ↦ never_there old e key w.in_default.ensures.none unadded
      | else-not-has_key w ↦ (let cut : has_key e.cuts key ≡ true = ap (λ cuts. has_key cuts key) (sym c.as_slice-cuts.ensures) ∙ sym c.has_key.ensures ∙ w.if-not-has_key.false in
          cut_not_added old e key cut unadded)
    ] in
    rw c.from_residual.ensures absent

pub overflow_add-result : goal.overflow_add-result
overflow_add-result c =
    let few = filter_few (λ k. not (has_key c.as_slice-cuts.result.now k)) c.args.old.now in
    let inside = place_within c.as_slice.result.now c.in_ok-place.place c.args.key.now c.in_ok-place.ensures.found in
    search (rules, c, few, inside)

pub returns-clause-found : goal.returns-clause-found
returns-clause-found c =
    let old = c.args.old.now in
    let e = c.args.event.now in
    let key = c.args.key.now in
    let place = c.in_ok-place.place in
    let left : c.left_count-2.result ≡ length (filter (λ k. not (has_key e.cuts k)) old) =
    c.left_count-2.ensures ∙ ap (λ cuts. length (filter (λ k. not (has_key cuts k)) old)) c.as_slice-cuts.ensures in
    let has : has_this (slice_get e.adds place) key ≡ true = ap (λ adds. has_this (slice_get adds place) key) (sym c.as_slice.ensures) ∙ c.in_ok-place.ensures.found in
    ap (λ n. has_this (slice_get (changed_list old e) (n + place)) key) left ∙ added_at old e key place has
