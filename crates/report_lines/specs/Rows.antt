-- Rows of bodies with their lines.
use Rattle.std.specs.Prelude.{◌≡◌, ℕ, List, map, All, Option, Some, None, IfSome, is_some, option_map, string_bytes, if◌then◌else◌}
use Rattle.journal.specs.declared.journal.body.Body.{Body}
use Rattle.validator_core.specs.ValidatorCore.View.{CoreView}
use Rattle.report_lines.specs.Report.{reason_of}
use Rattle.report_lines.specs.declared.row.Row.{Row}

-- the body of a row
abbrev pub body_of : Row → Body
body_of r = record { bytes = r.body.now; event = r.event.now }

-- the row has its body's lines
abbrev pub HasLines : (Body → List ℕ) → Row → Type 0
HasLines lines r = string_bytes r.lines ≡ lines (body_of r)

-- the rows are those of the bodies, each with its lines
pub record AreRows (lines : Body → List ℕ) (bodies : List Body) (rows : List Row) : Type 0 where
  pub bodies_are : map body_of rows ≡ bodies
  pub have_lines : All (HasLines lines) rows

-- the row is that of the body with its lines, or neither is there
pub record IsRow (lines : Body → List ℕ) (b : Option Body) (row : Option Row) : Type 0 where
  pub body_is : option_map body_of row ≡ b
  pub has_lines : IfSome row (HasLines lines)

-- the body, where it waits
abbrev pub if_waits : CoreView → Option Body → Option Body
if_waits core None = None
if_waits core (Some b) = if is_some (reason_of core b) then Some b else None
