use Rattle.std.proofs.Common.{◌≡◌}
use Rattle.rows_runs.proofs.cores.evidence.ask_all.Given as goal

abbrev pub invariant-loop : goal.invariant-loop
invariant-loop l = l.core.mode ≡ l.initial.core.mode
