use Rattle.std.proofs.Common.{sym, ◌∙◌, ap, map}
use Rattle.validator_core.proofs.TablesLemmas.Pairs.{bytes_of}
use Rattle.validator_core.proofs.tables.tables.Tables.into_journal.Goals as goal

pub returns-clause-bodies : goal.returns-clause-bodies
returns-clause-bodies c = sym (bytes_of c.self.inside.journal.bodies c.self.inside.events.items c.self.invariant.0) ∙ ap (λ v. map (λ b. b.bytes) v.held) c.self.view_is
