use Rattle.std.proofs.Common.{sym, ◌∙◌, ap, length}
use Rattle.validator_core.proofs.TablesLemmas.Pairs.{length-paired}
use Rattle.validator_core.proofs.tables.tables.Tables.len.Goals as goal

pub returns : goal.returns
returns c = c.len.ensures ∙ c.self.inside.events.ok.0 ∙ sym (length-paired c.self.inside.journal.bodies c.self.inside.events.items c.self.invariant.0) ∙ ap (λ v. length v.held) c.self.view_is
