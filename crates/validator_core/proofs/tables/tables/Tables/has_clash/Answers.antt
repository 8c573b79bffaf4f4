use Rattle.std.proofs.Common.{subst}
use Rattle.claim_table.specs.CoreLaws.Standing.{HasNoClash}
use Rattle.validator_core.specs.Tables.View.{View, log_of}
use Rattle.validator_core.proofs.TablesLemmas.NamedRows.{no_clash}
use Rattle.validator_core.proofs.tables.tables.Tables.has_clash.Goals as goal

pub returns : goal.returns
returns c = λ no. subst (λ (v : View). HasNoClash (log_of v)) c.self.view_is (no_clash c.self.invariant.2 no)
