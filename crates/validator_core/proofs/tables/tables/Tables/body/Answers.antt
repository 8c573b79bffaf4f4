use Rattle.std.proofs.Common.{◌∙◌, ap}
use Rattle.std.specs.Prelude.{option_map, slice_get}
use Rattle.validator_core.proofs.TablesLemmas.Pairs.{bytes_at}
use Rattle.validator_core.proofs.tables.tables.Tables.body.Goals as goal

pub returns : goal.returns
returns c = c.text_at.ensures ∙ ap (λ bs. slice_get bs c.args.number) c.as_slice.ensures ∙ bytes_at c.self.inside.journal.bodies c.self.inside.events.items c.self.invariant.0 c.args.number
    ∙ ap (λ v. option_map (λ b. b.bytes) (slice_get v.held c.args.number)) c.self.view_is
