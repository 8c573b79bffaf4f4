use Rattle.std.proofs.Common.{[], sym, ◌∙◌, ap}
use Rattle.std.specs.Prelude.{slice_get}
use Rattle.validator_core.proofs.AcceptanceLemmas.Behind.{stands_not}
use Rattle.validator_core.proofs.AcceptanceLemmas.Place.{above, has_place, has_state, is_behind, live, some, stands_on}
use Rattle.validator_core.proofs.AcceptanceLemmas.Predecessor.{no_predecessor}
use Rattle.validator_core.proofs.AcceptanceLemmas.ReadyRows.{first_stands}
use Rattle.validator_core.specs.Tables.View.{body_of, log_of}
use Rattle.validator_core.proofs.acceptance.footing.footing_of.Goals as goal

pub returns-then-is_inception-clause-some : goal.returns-then-is_inception-clause-some
returns-then-is_inception-clause-some c = λ bytes. record { up = first_stands (log_of c.args.tables.now) (body_of bytes c.args.event.now) (sym c.if-is_inception.ensures); is = sym c.if-is_inception.ensures }

pub returns-in_err-before-clause-none : goal.returns-in_err-before-clause-none
returns-in_err-before-clause-none c = λ bytes.
    (let down = stands_not (log_of c.args.tables.now) (body_of bytes c.args.event.now) (sym c.if-is_inception.ensures) (no_predecessor (log_of c.args.tables.now) (body_of bytes c.args.event.now) (sym (c.in_err-before.ensures bytes))) in
    let is = c.from_residual.ensures in rw is down)

pub returns-in_err-place-clause-none : goal.returns-in_err-place-clause-none
returns-in_err-place-clause-none c =
    let none = ap (λ l. slice_get l.places c.in_ok-before.before) (sym c.log.ensures) ∙ sym c.in_err-place.ensures in
    absurd (has_place (log_of c.args.tables.now) c.args.tables.now.log c.requires.log (body_of [] c.args.event.now) c.in_ok-before.before (sym (c.in_ok-before.ensures [])) none)

pub returns-in_err-state-clause-none : goal.returns-in_err-state-clause-none
returns-in_err-state-clause-none c =
    let place = ap (λ l. slice_get l.places c.in_ok-before.before) (sym c.log.ensures) ∙ sym c.in_ok-place.ensures in
    let none = ap (λ l. slice_get l.states c.in_ok-place.place.state) (sym c.log-2.ensures) ∙ sym c.in_err-state.ensures in
    absurd (has_state (log_of c.args.tables.now) c.args.tables.now.log c.requires.log c.requires.grown (body_of [] c.args.event.now) (sym c.if-is_inception.ensures) c.in_ok-before.before (sym (c.in_ok-before.ensures [])) c.in_ok-place.place place none)

pub follows-requires-clause-above : goal.follows-requires-clause-above
follows-requires-clause-above c =
    let place = ap (λ l. slice_get l.places c.in_ok-before.before) (sym c.log.ensures) ∙ sym c.in_ok-place.ensures in
    let at = ap (λ l. slice_get l.states c.in_ok-place.place.state) (sym c.log-2.ensures) ∙ sym c.in_ok-state.ensures in
    above (log_of c.args.tables.now) c.args.tables.now.log c.requires.log c.requires.grown (body_of [] c.args.event.now) (sym c.if-is_inception.ensures) c.in_ok-before.before (sym (c.in_ok-before.ensures [])) c.in_ok-place.place place c.in_ok-state.state.now at

pub follows-requires-clause-some : goal.follows-requires-clause-some
follows-requires-clause-some c =
    let place = ap (λ l. slice_get l.places c.in_ok-before.before) (sym c.log.ensures) ∙ sym c.in_ok-place.ensures in
    let at = ap (λ l. slice_get l.states c.in_ok-place.place.state) (sym c.log-2.ensures) ∙ sym c.in_ok-state.ensures in
    some (log_of c.args.tables.now) c.args.tables.now.log c.requires.log c.requires.grown (body_of [] c.args.event.now) (sym c.if-is_inception.ensures) c.in_ok-before.before (sym (c.in_ok-before.ensures [])) c.in_ok-place.place place c.in_ok-state.state.now at

pub follows-requires-clause-live : goal.follows-requires-clause-live
follows-requires-clause-live c =
    let place = ap (λ l. slice_get l.places c.in_ok-before.before) (sym c.log.ensures) ∙ sym c.in_ok-place.ensures in
    let at = ap (λ l. slice_get l.states c.in_ok-place.place.state) (sym c.log-2.ensures) ∙ sym c.in_ok-state.ensures in
    live (log_of c.args.tables.now) c.args.tables.now.log c.requires.log c.requires.grown (body_of [] c.args.event.now) (sym c.if-is_inception.ensures) c.in_ok-before.before (sym (c.in_ok-before.ensures [])) c.in_ok-place.place place c.in_ok-state.state.now at

pub returns-then-follows-clause-some : goal.returns-then-follows-clause-some
returns-then-follows-clause-some c =
    let place = ap (λ l. slice_get l.places c.in_ok-before.before) (sym c.log.ensures) ∙ sym c.in_ok-place.ensures in
    let at = ap (λ l. slice_get l.states c.in_ok-place.place.state) (sym c.log-2.ensures) ∙ sym c.in_ok-state.ensures in
    λ bytes. record { up = stands_on (log_of c.args.tables.now) c.args.tables.now.log c.requires.log c.requires.grown (body_of bytes c.args.event.now) (sym c.if-is_inception.ensures) c.in_ok-before.before (sym (c.in_ok-before.ensures bytes)) c.in_ok-place.place place c.in_ok-state.state.now at ∙ sym c.if-follows.ensures; is = is_behind (log_of c.args.tables.now) c.args.tables.now.log c.requires.log c.requires.grown (body_of bytes c.args.event.now) (sym c.if-is_inception.ensures) c.in_ok-before.before (sym (c.in_ok-before.ensures bytes)) c.in_ok-place.place place c.in_ok-state.state.now at }

pub returns-else-follows-clause-none : goal.returns-else-follows-clause-none
returns-else-follows-clause-none c =
    let place = ap (λ l. slice_get l.places c.in_ok-before.before) (sym c.log.ensures) ∙ sym c.in_ok-place.ensures in
    let at = ap (λ l. slice_get l.states c.in_ok-place.place.state) (sym c.log-2.ensures) ∙ sym c.in_ok-state.ensures in
    λ bytes. stands_on (log_of c.args.tables.now) c.args.tables.now.log c.requires.log c.requires.grown (body_of bytes c.args.event.now) (sym c.if-is_inception.ensures) c.in_ok-before.before (sym (c.in_ok-before.ensures bytes)) c.in_ok-place.place place c.in_ok-state.state.now at ∙ sym c.if-follows.ensures
