use Rattle.std.proofs.Common.{◌∙◌, ap}
use Rattle.std.specs.Prelude.{option_map, slice_get}
use Rattle.validator_core.proofs.TablesLemmas.Pairs.{event_at}
use Rattle.validator_core.proofs.tables.tables.Tables.event.Goals as goal

pub returns : goal.returns
returns c = c.event_at.ensures ∙ ap (λ es. slice_get es c.args.number) c.as_slice.ensures.value ∙ event_at c.self.inside.journal.bodies c.self.inside.events.items c.self.invariant.0 c.args.number
    ∙ ap (λ v. option_map (λ b. b.event) (slice_get v.held c.args.number)) c.self.view_is
