-- The accepted events of a journal.
use Rattle.std.specs.Prelude.{List, []}
use Rattle.journal.specs.declared.journal.mode.Mode.{Mode}
use Rattle.journal.specs.Journal.Logs.{Body}
use Rattle.journal.specs.Journal.History.{Told, bodies}
use Rattle.journal.specs.Journal.Readiness.{is_ready}
use Rattle.journal.specs.Journal.Acceptance.{grown_by}

-- the base, and then what each entry makes ready, the earliest body first
unfoldable pub accepted : Mode → List Body → List Told → List Body
accepted mode base told = grown_by (is_ready mode) (bodies base) base [] told
