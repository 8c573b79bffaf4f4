-- What a core was told by the readers of files.
use Rattle.std.specs.Prelude.{◌≡◌, ◌≢◌, ℕ, ◌⊎◌, Bool, true, false, List, [], ◌∷◌, length, map, All, IfSome, IsSome, Option, None, Some, is_none}
use Rattle.lists.specs.KeriSpecs.Causes.{Rose}
use Rattle.lists.specs.KeriSpecs.Shown.{HasNone}
use Rattle.keri_outside.specs.declared.limits.Limits.{Limits}
use Rattle.journal.specs.declared.journal.body.Body.{Body}
use Rattle.journal.specs.declared.journal.entry.Entry.{Entry}
use Rattle.journal.specs.declared.journal.journal.Journal.{Journal}
use Rattle.journal.specs.declared.journal.mode.Mode.{Mode}
use Rattle.journal.specs.Journal.Accepted.{accepted}
use Rattle.journal.specs.Journal.Feeds.{End, Fed, IsFed}
use Rattle.journal.specs.Journal.History.{Told as ToldEntry}
use Rattle.journal.specs.Journal.Journals.{told_by}
use Rattle.journal.specs.Journal.Questions.{questions, IsInStep, IsRegular}
use Rattle.journal.specs.Journal.Readiness.{is_ready}
use Rattle.journal.specs.Journal.Replies.{IsWithin}
use Rattle.validator_core.specs.ValidatorCore.View.{CoreView, IsSoundCore}
use Rattle.run_status.specs.RunOutside.Makings.{AreMakings}
use Rattle.run_status.specs.RunOutside.Shown.{OutsideShown, making}
use Rattle.run_status.specs.declared.run_outside.making.Making.{Making}
use Rattle.run_status.specs.declared.run_outside.making.MakingKind.TheVariants.{Source as SourceKind, Verifier as VerifierKind}
use Rattle.run_status.specs.declared.run_status.besides.Besides.{Besides}
use Rattle.run_status.specs.declared.run_status.close.Close.{Close}
use Rattle.run_status.specs.declared.run_status.close.Close.TheVariants as close
use Rattle.run_status.specs.RunStatus.Readers.{Reader}
use Rattle.keri_outside.specs.Shown.{SourceShown}
use Rattle.run_status.specs.RunStatus.Status.{nothing_besides}
use Rattle.reader_hub.specs.declared.reader_threads.last_round.LastRound.{LastRound}
use Rattle.reader_hub.specs.declared.reader_threads.last_round.LastRound.TheVariants.{NoneFailed, VerifierFailed, OutOfMemory}
use Rattle.reader_hub.specs.ReaderThreads.Asked.{EachAsksOnly}
use Rattle.reader_hub.specs.ReaderThreads.Fed.{ReadEach, ends_of, most_turns}
use Rattle.reader_hub.specs.ReaderThreads.Given.{Given, said_by}
use Rattle.reader_hub.specs.ReaderThreads.Told.{EachFailed, SomeFailed}
use Rattle.keri_roles.specs.CoreRoles.Through.{is_through}
use Rattle.keri_roles.specs.CoreRoles.Work.{Work}

-- what the reader of a name is given, with the verifier of a helper, as far as both could be made: nothing was read, asked or failed yet
pub record IsGiven (before : OutsideShown) (helper name : List ℕ) (given : Given) : Type 0 where
  pub source : IfSome given.source (λ s. (s.left ≡ before.holds name) × (s.faults ≡ 0))
  pub verifier : IfSome given.verifier (λ v. (v.says ≡ before.says helper) × HasNone v.inquiries × (v.faults ≡ 0))

-- and so the reader of each name
abbrev pub AreGiven : OutsideShown → List ℕ → List (List ℕ) → List Given → Type 0
AreGiven before helper [] [] = Unit {0}
AreGiven before helper [] (g ∷ given) = ⊥
AreGiven before helper (name ∷ names) [] = ⊥
AreGiven before helper (name ∷ names) (g ∷ given) = IsGiven before helper name g × AreGiven before helper names given

-- for each name the making of the source and then that of the verifier
abbrev pub makings_of : List ℕ → List (List ℕ) → List Given → List Making
makings_of helper [] given = []
makings_of helper (name ∷ names) [] = []
makings_of helper (name ∷ names) (g ∷ given) =
    making SourceKind name (is_none g.source) ∷ making VerifierKind helper (is_none g.verifier) ∷ makings_of helper names given

-- the names stand for the same, and so do helpers
pub record SameNames (before after : OutsideShown) : Type 0 where
  pub holds : after.holds ≡ before.holds
  pub says : after.says ≡ before.says

-- The readers of these names are given what could be made for them, and there are no other makings.
pub record AreProvided (helper : List ℕ) (names : List (List ℕ)) (given : List Given) (before after : OutsideShown) : Type 0 where
  pub are_given : AreGiven before helper names given
  pub makes : AreMakings (makings_of helper names given) before after

-- no body is ready behind what is accepted
abbrev pub AreSettled : Mode → List Body → List ToldEntry → Type 0
AreSettled mode held told = All (λ b. is_ready mode told (accepted mode [] told) b ≡ false) held

-- the journal is the core's
pub record IsJournalOf (core : CoreView) (journal : Journal) : Type 0 where
  pub bodies : journal.bodies ≡ map (λ b. b.bytes) core.held
  pub entries : journal.entries ≡ core.entries
  pub sound : IsSoundCore core

-- a core by its bodies and its entries, by which alone a text is made
abbrev pub core_of : Mode → Limits → List Body → List Entry → CoreView
core_of mode limits held entries = record { mode = mode; limits = limits; base = 0; held = held; entries = entries; accepted = [] }

abbrev pub plain : CoreView → CoreView
plain core = record core { accepted = [] }

-- there was memory for all that was read, and in the last round
abbrev pub HadMemory : LastRound → List Reader → Type 0
HadMemory rest readers = (rest ≢ OutOfMemory) × All (λ r. r.close ≢ close.OutOfMemory) readers

-- the reader has a source and a verifier: both could be made
pub record HasBoth (reader : Reader) : Type 0 where
  pub source : IsSome reader.source
  pub verifier : IsSome reader.verifier

-- neither of them has failed, and no limit closed the reader
pub record MetNoFault (reader : Reader) : Type 0 where
  pub source : IfSome reader.source (λ s. s.faults ≡ 0)
  pub verifier : IfSome reader.verifier (λ v. v.faults ≡ 0)
  pub no_limit : reader.close ≢ close.LimitReached

-- what the source held that a reader was given, where it shows that
abbrev pub held_by : Option SourceShown → Option (List ℕ)
held_by None = None
held_by (Some source) = source.left

-- the ends of readers that took all messages of what their sources held
abbrev pub whole_ends : List Given → List Reader → List End
whole_ends [] readers = []
whole_ends (g ∷ given) [] = []
whole_ends (g ∷ given) (reader ∷ readers) =
    record { bytes = held_by g.source; says = said_by reader.verifier; refused = reader.refused; stopped = false } ∷ whole_ends given readers

-- Each reader came to the end of its stream, or to what is refused of it, and all messages of what the sources held are told but for
-- those that are refused. No question is open, and no verifier failed in the last round.
pub record AreThrough (mode : Mode) (limits : Limits) (given : List Given) (readers : List Reader) (rest : LastRound) (told : List ToldEntry) : Type 0 where
  pub through : All (λ r. is_through r.close ≡ true) readers
  pub whole : Fed limits (whole_ends given readers) told
  pub none_open : questions mode [] told ≡ []
  pub none_failed : rest ≡ NoneFailed

-- COMPLETE: so it is of readers of which each has both and met no fault, where there was memory.
abbrev pub IsComplete : Mode → Limits → List Given → List Reader → LastRound → List ToldEntry → Type 0
IsComplete mode limits given readers rest told =
    All HasBoth readers → All MetNoFault readers → HadMemory rest readers → AreThrough mode limits given readers rest told

-- What is told in the journal is what the readers fed, within the limits, each from what it was given. Each verdict was given to a
-- question that was open; what one reader alone told is in step: each message came once no question was open, and each verdict is on the
-- first that was. No verifier was asked anything but for verdicts that are told and on questions that are open. Unless the last round found
-- no memory, a question is open still only where each verifier failed. No event is ready that isn't accepted. Where each reader has a
-- source and a verifier, nothing failed, no limit was reached and there was memory, all streams were read through.
pub record IsToldBy (mode : Mode) (limits : Limits) (given : List Given) (readers : List Reader) (rest : LastRound) (journal : Journal) : Type 0 where
  pub read : List (List ℕ)
  pub fed : IsFed limits 0 (ends_of read readers) journal
  pub each : ReadEach limits (told_by fed.held journal.entries) (most_turns (told_by fed.held journal.entries) readers) rest 0 read given readers fed.fed.each
  pub asked : rest ≢ OutOfMemory → (questions mode [] (told_by fed.held journal.entries) ≡ []) ⊎ EachFailed given readers
  pub failed : rest ≡ VerifierFailed → SomeFailed given readers
  pub only : EachAsksOnly mode (told_by fed.held journal.entries) given readers
  pub alone : length readers ≡ 1 → IsInStep mode (told_by fed.held journal.entries)
  pub regular : IsRegular mode [] (told_by fed.held journal.entries)
  pub within : IsWithin limits [] (told_by fed.held journal.entries)
  pub settled : AreSettled mode fed.held (told_by fed.held journal.entries)
  pub complete : IsComplete mode limits given readers rest (told_by fed.held journal.entries)

-- What the readers are given was made so, and the journal was told by them, in order.
pub record ReadsToCore (mode : Mode) (IsProvided : List Given → OutsideShown → OutsideShown → Type 0) (work : Work) : Type 0 where
  pub given : List Given
  pub provided : IsProvided given work.before work.after
  pub rest : LastRound
  pub journal : IsToldBy mode work.before.limits given work.readers rest work.journal

-- a verifier failed in the last round
abbrev pub fails_last : LastRound → Bool
fails_last NoneFailed = false
fails_last VerifierFailed = true
fails_last OutOfMemory = false

-- what a last round came to, as a reader closes: by its verifier's fault, for want of memory, or by neither
abbrev pub last_close : LastRound → Close
last_close NoneFailed = close.End
last_close VerifierFailed = close.VerifierFault
last_close OutOfMemory = close.OutOfMemory

-- Where there was memory the text of a core and its readers is owed. What is found besides is what the text says, what the last round
-- came to, and whether the door failed.
pub record OwesText (is_text : CoreView → List Reader → List ℕ → Bool → Type 0) (finds : Bool → Besides) (door_failed : Bool) (core : CoreView) (readers : List Reader) (rest : LastRound)
    (owed : Option (List ℕ)) (besides : Besides) : Type 0 where
  pub is_found : Bool
  pub owes : IfSome owed (λ text. HadMemory rest readers × is_text core readers text is_found)
  pub nothing_else : besides ≡ record (finds is_found) { verifier_failed = fails_last rest; door_failed = door_failed }

-- Readers told a core, and the text of its journal and of them is owed. Where no making failed, nothing that was made has, no limit was
-- reached and there was memory, all streams were read through, and no question is open.
pub record IsOverCore (mode : Mode) (is_text : CoreView → List Reader → List ℕ → Bool → Type 0) (finds : Bool → Besides) (IsProvided : List Given → OutsideShown → OutsideShown → Type 0) (door_failed : Bool)
    (work : Work) : Type 0 where
  pub told : ReadsToCore mode IsProvided work
  pub owes : OwesText is_text finds door_failed (core_of mode work.before.limits told.journal.fed.held work.journal.entries) work.readers told.rest work.owed work.besides
  pub complete : (Rose work.before.faults work.after.faults → ⊥) → All MetNoFault work.readers → HadMemory told.rest work.readers
      → AreThrough mode work.before.limits told.given work.readers told.rest (told_by told.journal.fed.held work.journal.entries)

-- a command that finds nothing besides but whether there is a conflict
abbrev pub finds_conflict : Bool → Besides
finds_conflict has_conflicts = record nothing_besides { conflict_found = has_conflicts }

-- one that finds nothing but whether the identifier that is asked for isn't known
abbrev pub finds_unknown : Bool → Besides
finds_unknown unknown = record nothing_besides { prefix_unknown = unknown }
