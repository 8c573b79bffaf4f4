use Rattle.std.proofs.Common.{map, ap, sym, ◌∙◌}
use Rattle.validator_core.specs.Tables.View.{View}
use Rattle.validator_core.proofs.TablesLemmas.Pairs.{events_of}
use Rattle.validator_core.proofs.tables.tables.Tables.events.Goals as goal

pub returns : goal.returns
returns c =
    let t = c.self.inside in
    c.as_slice.ensures.value ∙ sym (events_of t.journal.bodies t.events.items c.self.invariant.0) ∙ ap (λ (v : View). map (λ b. b.event) v.held) c.self.view_is
