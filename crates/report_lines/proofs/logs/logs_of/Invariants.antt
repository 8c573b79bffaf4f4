use Rattle.std.proofs.Common.{take}
use Rattle.journal.specs.Journal.Journals.{chosen}
use Rattle.report_lines.specs.Logs.{AreLogs}
use Rattle.report_lines.proofs.logs.logs_of.Given as goal

-- the logs are those of the events so far
abbrev pub invariant-loop-number : goal.invariant-loop-number
invariant-loop-number l = let held = l.fn.core.held in AreLogs held (chosen held (take l.number-index l.number-items)) l.logs.entries
