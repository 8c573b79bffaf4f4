use Rattle.std.proofs.Common.{◌≡◌, List, take, string_bytes}
use Rattle.journal.specs.declared.journal.body.Body.{Body}
use Rattle.journal.specs.Journal.Journals.{chosen}
use Rattle.report_lines.specs.Logs.{Marks}
use Rattle.report_lines.specs.Report.{events_lines}
use Rattle.report_lines.proofs.log_lines.lines_of_events.Given as goal

-- the text has the lines of the events so far
abbrev pub invariant-loop-number : goal.invariant-loop-number
invariant-loop-number l = let held = l.fn.core.held in
    (live_events : List Body) → Marks held l.live live_events → string_bytes l.text ≡ events_lines live_events (chosen held (take l.number-index l.numbers))
