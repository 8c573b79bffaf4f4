use Rattle.std.proofs.Common.{◌≡◌}
use Rattle.rows_runs.proofs.cores.evidence.take_all.Given as goal

abbrev pub invariant-loop-place : goal.invariant-loop-place
invariant-loop-place l = l.core.mode ≡ l.initial.core.mode
