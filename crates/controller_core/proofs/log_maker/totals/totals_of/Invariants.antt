use Rattle.std.proofs.Common.{◌≡◌, ◌+◌, ◌-◌, ◌≤◌, length}
use Rattle.controller_core.specs.LogMaker.Streams.{logs_from, rotations_from}
use Rattle.controller_core.proofs.log_maker.totals.totals_of.Given as goal

abbrev pub invariant-loop-log : goal.invariant-loop-log
invariant-loop-log l = record {
  few : l.totals.rotations ≤ l.totals.bytes;
  rotations : l.totals.rotations + rotations_from l.seed l.log l.events (l.logs - l.log) ≡ rotations_from l.seed 0 l.events l.logs;
  bytes : l.totals.bytes + length (logs_from l.seed l.log l.events (l.logs - l.log)) ≡ length (logs_from l.seed 0 l.events l.logs);
}
