-- What a validator reports, against what any other reports that was told the same.
use Rattle.std.specs.Prelude.{◌≡◌, ℕ, Bool, List}
use Rattle.keri_outside.specs.declared.limits.Limits.{Limits}
use Rattle.journal.specs.declared.journal.body.Body.{Body}
use Rattle.journal.specs.declared.journal.entry.Entry.{Entry}
use Rattle.journal.specs.declared.journal.mode.Mode.{Mode}
use Rattle.journal.specs.declared.journal.mode.Mode.TheVariants.{Full}
use Rattle.journal.specs.Journal.History.{Told}
use Rattle.journal.specs.Journal.Journals.{InOrder, told_by}
use Rattle.journal_views.specs.JournalLaws.Alike.{AreAlike, AreSame}
use Rattle.report_lines.specs.Report.{IsStandingText}
use Rattle.keri_roles.specs.CoreRoles.CoreTold.{core_of}

-- what was told comes to the same as all that was told alike
abbrev pub ComesToTheSame : Mode → List Told → Type 0
ComesToTheSame mode told = (other : List Told) → AreAlike mode told other → AreSame mode told other

-- byte for byte there is one report of both, whatever their limits, and both say the same of conflicts; the lines of readers are no
-- part of it
abbrev pub HaveOneText : List Body → List Entry → List Body → List Entry → Type 0
HaveOneText held entries others more = (limits less : Limits) (text found : List ℕ) (has finds : Bool)
    → IsStandingText (core_of Full limits held entries) text has → IsStandingText (core_of Full less others more) found finds
    → (text ≡ found) × (has ≡ finds)

-- both accept the same, and report it alike
pub record AreOne (held : List Body) (entries : List Entry) (others : List Body) (more : List Entry) : Type 0 where
  pub same : AreSame Full (told_by held entries) (told_by others more)
  pub one_text : HaveOneText held entries others more

-- What is accepted and reported of these bodies and entries is accepted and reported of all others that are alike.
abbrev pub IsConfluent : List Body → List Entry → Type 0
IsConfluent held entries = (others : List Body) (more : List Entry) → InOrder 0 others more
    → AreAlike Full (told_by held entries) (told_by others more) → AreOne held entries others more
