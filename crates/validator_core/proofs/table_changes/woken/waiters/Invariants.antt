use Rattle.std.proofs.Common.{◌≡◌, take}
use Rattle.std.specs.Prelude.{filter, slice_get}
use Rattle.validator_core.specs.Tables.View.{log_of}
use Rattle.validator_core.specs.TableChanges.Awaited.{is_awaited_there}
use Rattle.validator_core.proofs.table_changes.woken.waiters.Given as goal

abbrev pub invariant-loop-waiting : goal.invariant-loop-waiting
invariant-loop-waiting l = l.those.items ≡ filter (λ n. is_awaited_there l.mode (log_of l.tables) (slice_get l.tables.held l.number) (slice_get l.tables.held n)) (take l.waiting-index l.numbers)
