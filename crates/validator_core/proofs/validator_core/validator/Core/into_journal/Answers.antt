use Rattle.std.proofs.Common.{subst}
use Rattle.validator_core.specs.ValidatorCore.View.{IsSoundCore}
use Rattle.validator_core.proofs.ValidatorCoreLemmas.Cores.{stands_seen}
use Rattle.validator_core.proofs.validator_core.validator.Core.into_journal.Goals as goal

pub returns-clause-sound : goal.returns-clause-sound
returns-clause-sound c = subst IsSoundCore c.self.view_is (stands_seen c.self.inside.mode c.self.inside.limits c.self.inside.base c.self.inside.tables c.self.inside.tally c.self.invariant)
