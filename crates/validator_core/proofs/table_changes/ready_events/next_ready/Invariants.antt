use Rattle.std.proofs.Common.{◌≡◌, ℕ, length}
use Rattle.validator_core.specs.Tables.View.{log_of}
use Rattle.validator_core.specs.Acceptance.Standing.{told_of}
use Rattle.validator_core.specs.Acceptance.ReadyRuns.{counted_on}
use Rattle.validator_core.specs.TableChanges.ReadyEvents.{LeadsTo}
use Rattle.validator_core.proofs.table_changes.ready_events.next_ready.Given as goal

abbrev pub invariant-loop-number : goal.invariant-loop-number
invariant-loop-number l = (passed : ℕ) × (l.steps ≡ counted_on l.initial.steps passed)
    × LeadsTo l.mode (told_of l.tables) l.tables.held l.initial.due.keys (log_of l.tables) l.due.keys (log_of l.tables) passed

abbrev pub decreases-loop-number : goal.decreases-loop-number
decreases-loop-number l = length l.due.keys
