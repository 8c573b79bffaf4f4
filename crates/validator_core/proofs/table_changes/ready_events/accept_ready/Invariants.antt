use Rattle.std.proofs.Common.{not}
use Rattle.std.specs.Prelude.{count_by}
use Rattle.journal.specs.Journal.Logs.{is_in}
use Rattle.validator_core.specs.Tables.View.{log_of}
use Rattle.validator_core.proofs.TableChangesLemmas.Ends.{IsAccepting}
use Rattle.validator_core.proofs.table_changes.ready_events.accept_ready.Given as goal

abbrev pub invariant-loop-number : goal.invariant-loop-number
invariant-loop-number l = IsAccepting l.mode l.initial.tables l.initial.due.keys l.initial.steps l.tables l.due.keys l.steps

abbrev pub decreases-loop-number : goal.decreases-loop-number
decreases-loop-number l = count_by (λ b. not (is_in (log_of l.tables) b)) l.tables.held
