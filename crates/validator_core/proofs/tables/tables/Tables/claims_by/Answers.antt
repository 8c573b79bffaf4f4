use Rattle.std.proofs.Common.{◌∙◌, ap}
use Rattle.std.specs.Option.{option_copied}
use Rattle.std.specs.Prelude.{slice_get}
use Rattle.validator_core.specs.Tables.EntryClaims.{came_to}
use Rattle.validator_core.proofs.TablesLemmas.Places.{got}
use Rattle.validator_core.specs.Tables.Inside.{view_of}
use Rattle.validator_core.proofs.TablesLemmas.Pairs.{event_at}
use Rattle.validator_core.proofs.TablesLemmas.Raised.{came_there}
use Rattle.validator_core.proofs.tables.tables.Tables.claims_by.Goals as goal

pub returns : goal.returns
returns c = λ b at.
    let t = c.self.inside in
    c.claims_by.ensures
    ∙ ap (λ es. came_to es c.args.number (option_copied c.get.result)) c.as_slice.ensures.value
    ∙ came_there (view_of t) c.args.self.now c.self.view_is t.events.items (event_at t.journal.bodies t.events.items c.self.invariant.0) c.args.number c.requires.differ
    (option_copied c.get.result) c.args.entry (got c.as_slice-2.result.now c.args.entry c.get.result c.get.ensures.lookup ∙ ap (λ es. slice_get es c.args.entry) c.as_slice-2.ensures) b at
