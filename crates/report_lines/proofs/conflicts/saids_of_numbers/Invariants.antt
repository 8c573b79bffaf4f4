use Rattle.std.proofs.Common.{◌≡◌, take}
use Rattle.journal.specs.Journal.Journals.{chosen}
use Rattle.report_lines.specs.Report.{saids_of}
use Rattle.report_lines.proofs.conflicts.saids_of_numbers.Given as goal

-- the digests are those of the numbers so far
abbrev pub invariant-loop-number : goal.invariant-loop-number
invariant-loop-number l = l.saids.items ≡ saids_of (chosen l.fn.core.held (take l.number-index l.numbers))
