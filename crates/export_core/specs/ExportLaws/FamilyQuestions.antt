-- What is asked of a family, and that its part of a journal is a journal in which each verdict was asked for.
use Rattle.std.specs.Prelude.{◌≡◌, Bool, false, List, filter, bytes_eq}
use Rattle.std.specs.List.{list_any}
use Rattle.cesr_codes.specs.declared.prefix.Prefix.{Prefix}
use Rattle.journal.specs.declared.journal.body.Body.{Body}
use Rattle.journal.specs.declared.journal.mode.Mode.{Mode}
use Rattle.journal.specs.Journal.Accepted.{accepted}
use Rattle.journal.specs.Journal.Grown.{IsGrown}
use Rattle.journal.specs.Journal.History.{Told, Triple, bodies}
use Rattle.journal.specs.Journal.Questions.{IsRegular, questions}
use Rattle.journal.specs.Journal.Readiness.{is_local}
use Rattle.export_core.specs.ExportLaws.Export.{exported}
use Rattle.export_core.specs.ExportLaws.Families.{HaveOneReading, IsClosed, told_bodies, within}

-- the signature is on one of the bodies
abbrev pub is_on : List Body → Triple → Bool
is_on all t = list_any (λ b. bytes_eq b.bytes t.body) all

-- QUESTIONS: what is asked by the family's entries alone is what is asked of its bodies, the same in the same order
abbrev pub FamilyQuestionsLaw : Type 0
FamilyQuestionsLaw = (mode : Mode) (base : List Body) (told : List Told) (family : List Prefix)
    → HaveOneReading (told_bodies base told)
    → IsGrown base → (is_local mode ≡ false → IsClosed (accepted mode base told) family)
    → questions mode (exported family base) (within family told)
    ≡ filter (is_on (exported family (bodies base told))) (questions mode base told)

-- REGULAR: where each verdict of a journal was asked for, each of the family's was asked for by the family's
-- entries alone
abbrev pub FamilyRegularLaw : Type 0
FamilyRegularLaw = (mode : Mode) (base : List Body) (told : List Told) (family : List Prefix)
    → HaveOneReading (told_bodies base told)
    → IsGrown base → (is_local mode ≡ false → IsClosed (accepted mode base told) family)
    → IsRegular mode base told → IsRegular mode (exported family base) (within family told)
