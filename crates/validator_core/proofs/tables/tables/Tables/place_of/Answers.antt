use Rattle.std.proofs.Common.{◌∙◌, ap}
use Rattle.std.specs.Prelude.{◌==◌, position, slice_get}
use Rattle.validator_core.proofs.TablesLemmas.Found.{no_place, place_found}
use Rattle.validator_core.proofs.TablesLemmas.Pairs.{event_at}
use Rattle.validator_core.proofs.tables.tables.Tables.place_of.Goals as goal

pub returns-in_err-event : goal.returns-in_err-event
returns-in_err-event c =
    let t = c.self.inside in
    c.from_residual.ensures
    ∙ no_place c.self.invariant.2 t.events.items (event_at t.journal.bodies t.events.items c.self.invariant.0) c.args.number (c.in_err-event.ensures ∙ ap (λ es. slice_get es c.args.number) c.as_slice.ensures.value)
    ∙ ap (λ v. position (λ m. m == c.args.number) v.log.numbers) c.self.view_is

pub returns : goal.returns
returns c =
    let t = c.self.inside in
    c.first_of_number.ensures
    ∙ place_found c.self.invariant.2 t.events.items (event_at t.journal.bodies t.events.items c.self.invariant.0) c.args.number c.in_ok-event.event.now (c.in_ok-event.ensures ∙ ap (λ es. slice_get es c.args.number) c.as_slice.ensures.value)
    c.numbers.result.now c.numbers-2.result.now c.name_of-name.result c.numbers.ensures c.name_of-name.ensures c.numbers-2.ensures.those c.numbers-2.ensures.rising
    ∙ ap (λ v. position (λ m. m == c.args.number) v.log.numbers) c.self.view_is
