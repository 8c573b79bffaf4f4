-- What is asked once all readers have ended.
use Rattle.std.specs.Prelude.{◌≡◌, ◌≢◌, ℕ, ◌+◌, ◌<◌, ◌≤◌, ◌⊎◌, Bool, true, List, [], ◌∷◌, ◌++◌, length, map, Option, Some, None, All, slice_get}
use Rattle.lists.specs.KeriSpecs.Causes.{Rose}
use Rattle.keri_outside.specs.declared.inquiry.Inquiry.{Inquiry}
use Rattle.journal.specs.declared.journal.body.Body.{Body}
use Rattle.journal.specs.declared.journal.question.Question.{Question}
use Rattle.journal.specs.Journal.Feeds.{IsHeardFrom, reader_of}
use Rattle.journal.specs.Journal.History.{Told, took, heard}
use Rattle.journal.specs.Journal.Questions.{IsInStep}
use Rattle.run_status.specs.RunStatus.Readers.{Reader, VerifierShown, close_found, reader_seen}
use Rattle.run_status.specs.declared.run_status.reader_end.ReaderEnd.{ReaderEnd}
use Rattle.turn_lock.specs.Histories.{share_of}
use Rattle.validator_core.specs.ValidatorCore.View.{CoreView, Follows, open_of, told_of}
use Rattle.reader_hub.specs.SharedReader.Asks.{AsksFor, AsksOnly, IsVerdict, Says, verdict_count}
use Rattle.reader_hub.specs.ReaderThreads.Asked.{EachGoesOn}
use Rattle.reader_hub.specs.declared.reader_threads.last_round.LastRound.{LastRound}
use Rattle.reader_hub.specs.declared.reader_threads.last_round.LastRound.TheVariants.{NoneFailed, VerifierFailed, OutOfMemory}

-- the verdict of the reader of this number on the question came behind what was told
pub record NotesAs (number : ℕ) (old : CoreView) (q : Question) (verdict : Bool) (new : CoreView) : Type 0 where
  pub body : Body
  pub is_held : slice_get old.held q.body ≡ Some body
  pub behind : told_of new ≡ told_of old ++ heard number body q.key q.sig verdict ∷ []
  pub follows : Follows old new

-- Verdicts of the reader of this number came behind what was told, and nothing else. They are what is said, the verifier was asked
-- for them, and so many questions at most besides, all of them told or open. Of a core that began with nothing each verdict is on the
-- first question that was open.
pub record Hears (number : ℕ) (says : Says) (before now : Option (List Inquiry)) (old new : CoreView) (unheard : ℕ) : Type 0 where
  pub verdicts : List Told
  pub behind : told_of new ≡ told_of old ++ verdicts
  pub each : All (IsVerdict number says) verdicts
  pub inquired : AsksFor before now verdicts (verdict_count verdicts + unheard)
  pub follows : Follows old new
  pub only : old.base ≡ 0 → AsksOnly before now old.mode (told_of new)
  pub in_step : old.base ≡ 0 → IsInStep old.mode (told_of old) → IsInStep old.mode (told_of new)

-- one question was asked at most, which is open, and no verdict is told
pub record AsksUnheard (before now : Option (List Inquiry)) (core : CoreView) : Type 0 where
  pub few : AsksFor before now [] 1
  pub only : core.base ≡ 0 → AsksOnly before now core.mode (told_of core)

-- what became of two parts of the last round
abbrev pub joined : LastRound → LastRound → LastRound
joined NoneFailed later = later
joined VerifierFailed NoneFailed = VerifierFailed
joined VerifierFailed VerifierFailed = VerifierFailed
joined VerifierFailed OutOfMemory = OutOfMemory
joined OutOfMemory later = OutOfMemory

-- so many questions a verifier was asked at most whose verdicts aren't told
abbrev pub unheard_by : LastRound → ℕ
unheard_by NoneFailed = 0
unheard_by VerifierFailed = 1
unheard_by OutOfMemory = 1

-- a verifier's count of faults, before and after it was asked
abbrev pub CountsFault : LastRound → ℕ → ℕ → Type 0
CountsFault NoneFailed before now = now ≡ before
CountsFault VerifierFailed before now = Rose before now
CountsFault OutOfMemory before now = now ≡ before

-- the entry is a verdict of one of so many readers, the first of them having this number
abbrev pub IsHeardOf : ℕ → ℕ → Told → Type 0
IsHeardOf number count (took reader b claims) = ⊥
IsHeardOf number count (heard reader b key sig verdict) = (number ≤ reader) × (reader < number + count)

module _ (more : List Told) (rest : LastRound) where
  -- Since `more` is told, the reader's verifier was asked for the reader's verdicts in it, and little more; not at all if its fault
  -- had ended the reader.
  pub record IsAsked (number : ℕ) (had_failed : Bool) (old new : VerifierShown) : Type 0 where
    pub same_says : new.says ≡ old.says
    pub said : All (IsHeardFrom number old.says) more
    pub inquired : AsksFor old.inquiries new.inquiries (share_of reader_of number more) (verdict_count more + unheard_by rest)
    pub none_failed : rest ≡ NoneFailed → new.faults ≡ old.faults
    pub unasked : had_failed ≡ true → new.faults ≡ old.faults

  -- where there is one
  abbrev pub IsAskedIfThere : ℕ → Bool → Option VerifierShown → Option VerifierShown → Type 0
  IsAskedIfThere number had_failed None None = Unit {0}
  IsAskedIfThere number had_failed None (Some new) = ⊥
  IsAskedIfThere number had_failed (Some old) None = ⊥
  IsAskedIfThere number had_failed (Some old) (Some new) = IsAsked number had_failed old new

  -- but for its verifier the reader is as it was
  pub record AsksOne (number : ℕ) (old new : Reader) : Type 0 where
    pub source : new.source ≡ old.source
    pub refused : new.refused ≡ old.refused
    pub seen : new.seen ≡ old.seen
    pub close : new.close ≡ old.close
    pub asked : IsAskedIfThere number (close_found old.close).verifier_failed old.verifier new.verifier

  -- and so each of these readers, the first of them having this number
  abbrev pub AsksEach : ℕ → List Reader → List Reader → Type 0
  AsksEach number [] [] = Unit {0}
  AsksEach number [] (new ∷ news) = ⊥
  AsksEach number (old ∷ olds) [] = ⊥
  AsksEach number (old ∷ olds) (new ∷ news) = AsksOne number old new × AsksEach (number + 1) olds news

-- a verifier that is there failed in the round
abbrev pub FailsNow : Option VerifierShown → Option VerifierShown → Type 0
FailsNow None new = ⊥
FailsNow (Some old) None = ⊥
FailsNow (Some old) (Some new) = Rose old.faults new.faults

-- the verifier isn't there, or failed, in the round or before
abbrev pub GivesUp : Bool → Option VerifierShown → Option VerifierShown → Type 0
GivesUp had_failed None new = Unit {0}
GivesUp had_failed (Some old) None = ⊥
GivesUp had_failed (Some old) (Some new) = (had_failed ≡ true) ⊎ Rose old.faults new.faults

abbrev pub AllGiveUp : List Reader → List Reader → Type 0
AllGiveUp (old ∷ olds) (new ∷ news) = GivesUp (close_found old.close).verifier_failed old.verifier new.verifier × AllGiveUp olds news
AllGiveUp (old ∷ olds) [] = Unit {0}
AllGiveUp [] news = Unit {0}

abbrev pub OneFails : List Reader → List Reader → Type 0
OneFails (old ∷ olds) (new ∷ news) = FailsNow old.verifier new.verifier ⊎ OneFails olds news
OneFails (old ∷ olds) [] = ⊥
OneFails [] news = ⊥

-- The verifiers of these readers, the first of them having this number, were asked in order what was open: until nothing was, or
-- each had failed, or there was no memory. Verdicts came behind what was told, and nothing else; none where nothing was open. Of a
-- core that began with nothing they were asked only what is told or open, and each verdict is on the first question that was open.
pub record AsksRest (number : ℕ) (old new : List Reader) (core_old core_new : CoreView) (rest : LastRound) : Type 0 where
  pub more : List Told
  pub behind : told_of core_new ≡ told_of core_old ++ more
  pub verdicts : All (IsHeardOf number (length old)) more
  pub each : AsksEach more rest number old new
  pub follows : Follows core_old core_new
  pub quiet : open_of core_old ≡ [] → core_new ≡ core_old
  pub asked : rest ≢ OutOfMemory → (open_of core_new ≡ []) ⊎ AllGiveUp old new
  pub failed : rest ≡ VerifierFailed → OneFails old new
  pub only : core_old.base ≡ 0 → EachGoesOn core_old.mode (told_of core_new) old new
  pub in_step : core_old.base ≡ 0 → IsInStep core_old.mode (told_of core_old) → IsInStep core_old.mode (told_of core_new)

-- and so of what is seen of the readers
abbrev pub AsksAll : {S V : Type 0} → (S → Option (List ℕ)) → (S → ℕ) → (V → Says) → (V → Option (List Inquiry)) → (V → ℕ)
    → (number : ℕ) (old new : List (ReaderEnd S V)) (core_old core_new : CoreView) (rest : LastRound) → Type 0
AsksAll left faults says inquiries verifier_faults number old new core_old core_new rest =
    AsksRest number (map (reader_seen left faults says inquiries verifier_faults) old) (map (reader_seen left faults says inquiries verifier_faults) new) core_old core_new rest
