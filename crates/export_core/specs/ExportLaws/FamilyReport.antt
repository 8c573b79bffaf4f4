-- What a report says of a family besides its accepted events: why events wait, and which bodies count for conflicts.
use Rattle.std.specs.Prelude.{◌≡◌, true, false, List, ◌++◌, flat_map, Contains}
use Rattle.cesr_codes.specs.declared.prefix.Prefix.{Prefix}
use Rattle.journal.specs.declared.journal.body.Body.{Body}
use Rattle.journal.specs.declared.journal.mode.Mode.{Mode}
use Rattle.journal.specs.Journal.Accepted.{accepted}
use Rattle.journal.specs.Journal.Conflicts.{counted}
use Rattle.journal.specs.Journal.Grown.{IsGrown}
use Rattle.journal.specs.Journal.History.{Told, bodies, taken}
use Rattle.journal.specs.Journal.Readiness.{is_local}
use Rattle.journal.specs.Journal.Waiting.{why_waits}
use Rattle.export_core.specs.ExportLaws.Export.{exported, is_of_some}
use Rattle.export_core.specs.ExportLaws.Families.{HaveOneReading, NamesItsOwn, told_bodies, within}

-- the part has the family's bodies, the same in the same order; each of them waits for the same reason, or for none;
-- and those that count for conflicts are the same
pub record IsReportedAlike (mode : Mode) (base : List Body) (told : List Told) (family : List Prefix) : Type 0 where
  pub came : bodies (exported family base) (within family told) ≡ exported family (bodies base told)
  pub reasons : (b : Body) → Contains (bodies base told) b → is_of_some family b ≡ true
      → why_waits mode (within family told) (accepted mode (exported family base) (within family told)) b
      ≡ why_waits mode told (accepted mode base told) b
  pub counting : counted mode (exported family base) (within family told) ≡ exported family (counted mode base told)

-- REPORT: so it is where no inception of the family that came names a delegator outside. Else one could wait for a seal
-- in the part that in the whole never can be accepted, since the delegator outside forbids it.
abbrev pub FamilyReportLaw : Type 0
FamilyReportLaw = (mode : Mode) (base : List Body) (told : List Told) (family : List Prefix)
    → HaveOneReading (told_bodies base told) → IsGrown base
    → (is_local mode ≡ false → NamesItsOwn (base ++ flat_map taken told) family)
    → IsReportedAlike mode base told family
