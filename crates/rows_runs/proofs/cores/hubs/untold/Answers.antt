use Rattle.std.proofs.Common.{◌≡◌, [], ap, refl}
use Rattle.journal.specs.Journal.Journals.{told_by}
use Rattle.validator_core.specs.ValidatorCore.View.{CoreView, told_of}
use Rattle.rows_runs.proofs.cores.hubs.untold.Goals as goal

-- a core without entries was told nothing
nothing_told : (core : CoreView) → core.entries ≡ [] → told_of core ≡ []
unfolding told_by
nothing_told core none = rw none refl

pub returns-clause-untold : goal.returns-clause-untold
returns-clause-untold c = nothing_told c.new.result (ap (λ core. core.entries) c.new.ensures)
