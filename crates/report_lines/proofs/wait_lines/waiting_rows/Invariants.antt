use Rattle.std.proofs.Common.{take}
use Rattle.std.specs.Prelude.{filter, is_some}
use Rattle.report_lines.specs.Report.{reason_of, waits_lines}
use Rattle.report_lines.specs.Rows.{AreRows}
use Rattle.report_lines.proofs.wait_lines.waiting_rows.Given as goal

-- the rows are those of the bodies so far
abbrev pub invariant-loop-place : goal.invariant-loop-place
invariant-loop-place l = let core = l.fn.core in AreRows (waits_lines core) (filter (λ b. is_some (reason_of core b)) (take l.place core.held)) l.rows.items
