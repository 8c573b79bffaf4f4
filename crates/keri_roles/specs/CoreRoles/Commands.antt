-- What each command does that reads files or links to a core.
use Rattle.std.specs.Prelude.{ℕ, ◌⊎◌, false, Bool, List}
use Rattle.cesr_codes.specs.declared.prefix.Prefix.{Prefix}
use Rattle.run_status.specs.RunOutside.Shown.{OutsideShown}
use Rattle.reader_hub.specs.ReaderThreads.Given.{Given}
use Rattle.journal.specs.declared.journal.mode.Mode.TheVariants.{Full, Local}
use Rattle.journal.specs.Journal.Journals.{told_by}
use Rattle.validator_core.specs.ValidatorCore.View.{CoreView}
use Rattle.watcher_core.specs.Evidence.{IsEvidenceText, ReadsAsEvidence}
use Rattle.keri_roles.specs.CoreRoles.Agreement.{IsAgreed}
use Rattle.keri_roles.specs.CoreRoles.Confluence.{ComesToTheSame, IsConfluent}
use Rattle.keri_roles.specs.CoreRoles.CoreTold.{AreProvided, IsOverCore, finds_conflict, finds_unknown}
use Rattle.keri_roles.specs.CoreRoles.LinksShown.{AreLinked, AreUnseated}
use Rattle.keri_roles.specs.CoreRoles.Exports.{ExportsTo}
use Rattle.keri_roles.specs.CoreRoles.Reports.{Reports}
use Rattle.run_status.specs.RunStatus.Readers.{Reader}
use Rattle.keri_roles.specs.CoreRoles.Work.{LinksShown, Work}

-- A core that wants receipts and seals is told what its readers read, and the text is its report. What it accepts agrees with what any
-- other validator accepts; and what it accepts and reports any other does that was told the same.
pub record IsValidatedBy (IsProvided : List Given → OutsideShown → OutsideShown → Type 0) (door_failed : Bool) (work : Work) : Type 0 where
  pub over : IsOverCore Full Reports finds_conflict IsProvided door_failed work
  pub agreed : IsAgreed (told_by over.told.journal.fed.held work.journal.entries)
  pub confluent : IsConfluent over.told.journal.fed.held work.journal.entries

-- `validate --helper HELPER FILE..`: the readers are of the files
abbrev pub IsValidated : List ℕ → List (List ℕ) → Work → Type 0
IsValidated helper names = IsValidatedBy (AreProvided helper names) false

-- `validate --helper HELPER --listen ADDRESS --links COUNT`: the readers are of links, unless there was no memory for readers
abbrev pub AreLinksValidated : List ℕ → List ℕ → ℕ → LinksShown → Work → Type 0
AreLinksValidated helper address count taken work = IsValidatedBy (AreLinked helper address count taken) taken.failed work ⊎ AreUnseated address count taken work

-- The evidence is of the core alone, whatever was refused and however the readers closed; and whoever reads it reads just the
-- bodies in conflict with their signatures.
pub record IsEvidence (core : CoreView) (readers : List Reader) (text : List ℕ) (has_conflicts : Bool) : Type 0 where
  pub text_is : IsEvidenceText core text has_conflicts
  pub reads : ReadsAsEvidence core text

-- A core that wants neither receipts nor seals is told what its readers read, and the text is its evidence. What it accepts, and which
-- bodies are in conflict, is so for any other watcher that was told the same.
pub record IsWatchedBy (IsProvided : List Given → OutsideShown → OutsideShown → Type 0) (door_failed : Bool) (work : Work) : Type 0 where
  pub over : IsOverCore Local IsEvidence finds_conflict IsProvided door_failed work
  pub confluent : ComesToTheSame Local (told_by over.told.journal.fed.held work.journal.entries)

-- `watch --helper HELPER FILE..`: the readers are of the files
abbrev pub IsWatched : List ℕ → List (List ℕ) → Work → Type 0
IsWatched helper names = IsWatchedBy (AreProvided helper names) false

-- `watch --helper HELPER --listen ADDRESS --links COUNT`: the readers are of links, unless there was no memory for readers
abbrev pub AreLinksWatched : List ℕ → List ℕ → ℕ → LinksShown → Work → Type 0
AreLinksWatched helper address count taken work = IsWatchedBy (AreLinked helper address count taken) taken.failed work ⊎ AreUnseated address count taken work

-- `export --helper HELPER --prefix PREFIX FILE..`: a core that wants receipts and seals is told what the files hold, and the text is the
-- export of the identifier, or says that it isn't known.
abbrev pub IsExported : List ℕ → Prefix → List (List ℕ) → Work → Type 0
IsExported helper prefix names = IsOverCore Full (ExportsTo prefix) finds_unknown (AreProvided helper names) false
