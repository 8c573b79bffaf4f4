-- Conflicts by the numbers of their bodies.
use Rattle.std.specs.Prelude.{ℕ, List}
use Rattle.journal.specs.Journal.Journals.{chosen}
use Rattle.journal.specs.declared.journal.body.Body.{Body}
use Rattle.journal.specs.declared.journal.conflict.Conflict.{Conflict}
use Rattle.report_lines.specs.Lines.{conflict_text}
use Rattle.report_lines.specs.Report.{saids_of}

-- the line of a conflict: its place, and the digests of the bodies that it names
abbrev pub named_line : List Body → Conflict → List ℕ
named_line held c = conflict_text c.prefix c.sn (saids_of (chosen held c.bodies))
