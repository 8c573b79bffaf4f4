-- What all readers told a core, with the last round.
use Rattle.std.specs.Prelude.{◌≡◌, ◌≢◌, ℕ, ◌⊎◌, List, [], ◌∷◌, length, map, Option, Some, None}
use Rattle.lists.specs.KeriSpecs.Causes.{Rose}
use Rattle.keri_outside.specs.declared.inquiry.Inquiry.{Inquiry}
use Rattle.keri_outside.specs.declared.limits.Limits.{Limits}
use Rattle.journal.specs.declared.journal.mode.Mode.{Mode}
use Rattle.journal.specs.Journal.Questions.{IsInStep, questions}
use Rattle.run_status.specs.RunStatus.Readers.{Reader, VerifierShown, reader_seen}
use Rattle.validator_core.specs.ValidatorCore.View.{CoreView, IsSoundCore, told_of}
use Rattle.reader_hub.specs.SharedReader.Asks.{Says}
use Rattle.reader_hub.specs.ReaderThreads.Asked.{EachAsksOnly}
use Rattle.reader_hub.specs.ReaderThreads.Fed.{AllRead}
use Rattle.reader_hub.specs.ReaderThreads.Given.{Given, given_by}
use Rattle.reader_hub.specs.declared.reader_threads.last_round.LastRound.{LastRound}
use Rattle.reader_hub.specs.declared.reader_threads.providers.Providers.{Providers}
use Rattle.reader_hub.specs.declared.reader_threads.ran.Ran.{Ran}
use Rattle.reader_hub.specs.declared.reader_threads.last_round.LastRound.TheVariants.{VerifierFailed, OutOfMemory}

-- the verifier that was given failed since; where none was given, or none came back, there is nothing to fail
abbrev pub FailedIfThere : Option VerifierShown → Option VerifierShown → Type 0
FailedIfThere None left = Unit {0}
FailedIfThere (Some given) None = Unit {0}
FailedIfThere (Some given) (Some left) = Rose given.faults left.faults

-- each verifier that was given to one of these readers failed since
abbrev pub EachFailed : List Given → List Reader → Type 0
EachFailed [] readers = Unit {0}
EachFailed (g ∷ given) [] = Unit {0}
EachFailed (g ∷ given) (reader ∷ readers) = FailedIfThere g.verifier reader.verifier × EachFailed given readers

-- a verifier was given, and failed since
abbrev pub HasFailed : Option VerifierShown → Option VerifierShown → Type 0
HasFailed None left = ⊥
HasFailed (Some given) None = ⊥
HasFailed (Some given) (Some left) = Rose given.faults left.faults

-- some verifier that was given to one of these readers failed since
abbrev pub SomeFailed : List Given → List Reader → Type 0
SomeFailed [] readers = ⊥
SomeFailed (g ∷ given) [] = ⊥
SomeFailed (g ∷ given) (reader ∷ readers) = HasFailed g.verifier reader.verifier ⊎ SomeFailed given readers

-- Readers that were given this told the core what they read. What was open then was asked of their verifiers, until nothing was
-- open or each had failed, unless there was no memory. Verifiers were asked only what is told or open. What one reader alone told is
-- in step.
pub record AllTold (mode : Mode) (limits : Limits) (given : List Given) (readers : List Reader) (rest : LastRound) (core : CoreView) : Type 0 where
  pub read : AllRead limits (told_of core) given readers rest
  pub asked : rest ≢ OutOfMemory → (questions mode [] (told_of core) ≡ []) ⊎ EachFailed given readers
  pub failed : rest ≡ VerifierFailed → SomeFailed given readers
  pub only : EachAsksOnly mode (told_of core) given readers
  pub alone : length readers ≡ 1 → IsInStep mode (told_of core)
  pub mode_is : core.mode ≡ mode
  pub limits_are : core.limits ≡ limits
  pub no_base : core.base ≡ 0
  pub sound : IsSoundCore core

-- and so readers that were given these, by what is seen of them
abbrev pub HaveRun : {S V : Type 0} → (S → Option (List ℕ)) → (S → ℕ) → (V → Says) → (V → Option (List Inquiry)) → (V → ℕ)
    → Mode → Limits → List (Providers S V) → Ran S V → Type 0
HaveRun left faults says inquiries verifier_faults mode limits providers ran =
    AllTold mode limits (map (given_by left faults says inquiries verifier_faults) providers)
    (map (reader_seen left faults says inquiries verifier_faults) ran.readers.items) ran.rest ran.core
