-- What is seen of a command's work, before what it owes is written.
use Rattle.std.specs.Prelude.{◌≡◌, ◌≢◌, ℕ, Bool, List, [], ◌∷◌, map, option_map, is_none}
use Rattle.std.specs.declared.option.Option.{Option}
use Rattle.std.specs.declared.option.Option.TheVariants.{None, Some}
use Rattle.cesr_codes.specs.declared.key.Key.{Key}
use Rattle.cesr_codes.specs.declared.sig.Sig.{Sig}
use Rattle.keri_outside.specs.declared.inquiry.Inquiry.{Inquiry}
use Rattle.keri_outside.specs.declared.signing.Signing.{Signing}
use Rattle.run_status.specs.RunOutside.Makings.{AreMakings}
use Rattle.run_status.specs.RunOutside.Shown.{OutsideShown, making}
use Rattle.run_status.specs.declared.run_outside.making.MakingKind.TheVariants.{Source as SourceKind, Verifier as VerifierKind}
use Rattle.journal.specs.declared.journal.journal.Journal.{Journal}
use Rattle.run_status.specs.declared.run_status.besides.Besides.{Besides}
use Rattle.run_status.specs.declared.run_status.close.Close.{Close}
use Rattle.run_status.specs.declared.run_status.close.Close.TheVariants.{OutOfMemory}
use Rattle.run_status.specs.RunStatus.Readers.{Reader, reader_seen}
use Rattle.keri_outside.specs.Shown.{SinkShown}
use Rattle.run_status.specs.RunRecord.Run.{DoorShown, Run, EndsRun, SignerShown}
use Rattle.run_status.specs.RunRecord.Seen.{door_seen, signer_seen, sinks_seen}
use Rattle.keri_roles.specs.declared.core_roles.outcome.LinkedOutcome.{LinkedOutcome}
use Rattle.keri_roles.specs.declared.core_roles.outcome.Outcome.{Outcome}
use Rattle.keri_roles.specs.declared.core_roles.outcome.SignedOutcome.{SignedOutcome}

-- what links show that were taken at a door: the door, where it was made, the sinks of the links in order, and whether the door failed
pub record LinksShown : Type 0 where
  pub door : Option DoorShown
  pub sinks : List SinkShown
  pub failed : Bool

-- What a command did with the outside: its readers, its signer, where it made one, what was told, the text that it owes, unless
-- there was no memory for that, and what it found besides its readers' ends.
pub record Work : Type 0 where
  pub before : OutsideShown
  pub after : OutsideShown
  pub readers : List Reader
  pub signer : Option SignerShown
  pub journal : Journal
  pub owed : Option (List ℕ)
  pub besides : Besides

-- the work of a run
abbrev pub work_in : Run → Option (List ℕ) → Besides → Work
work_in run owed besides = record { before = run.before; after = run.after; readers = run.readers; signer = run.signer; journal = run.journal; owed = owed; besides = besides }

-- the one making is the source of a name, and it failed where there is none
abbrev pub MakesSource : {S : Type 0} → List ℕ → Option S → OutsideShown → OutsideShown → Type 0
MakesSource name source before after = AreMakings (making SourceKind name (is_none source) ∷ []) before after

-- the makings are the source of a name and the verifier of a helper
abbrev pub MakesProviders : {S V : Type 0} → List ℕ → List ℕ → Option S → Option V → OutsideShown → OutsideShown → Type 0
MakesProviders name helper source verifier before after =
    AreMakings (making SourceKind name (is_none source) ∷ making VerifierKind helper (is_none verifier) ∷ []) before after

-- the text of a reader that closed so, unless there was no memory
abbrev pub Owes : Option (List ℕ) → Close → (List ℕ → Type 0) → Type 0
Owes None close is_text = close ≡ OutOfMemory
Owes (Some text) close is_text = (close ≢ OutOfMemory) × is_text text

-- what is seen of a door and the sinks of its links, and of what a command over a core came to that read them
module _ {D K : Type 0} (left : D → Option (List (List ℕ))) (door_faults : D → ℕ) (written : K → Option (List ℕ)) (sink_faults : K → ℕ) where
  abbrev pub links_at : Option D → List K → Bool → LinksShown
  links_at door sinks failed = record {
    door = door_seen left door_faults door;
    sinks = sinks_seen written sink_faults sinks;
    failed = failed;
  }

  abbrev pub links_over : {S V : Type 0} → LinkedOutcome S V D K → LinksShown
  links_over linked = links_at linked.door linked.sinks.items linked.outcome.besides.door_failed

module _ {O S V : Type 0} (left : S → Option (List ℕ)) (faults : S → ℕ) (says : V → Key → List ℕ → Sig → Option Bool) (inquiries : V → Option (List Inquiry)) (verifier_faults : V → ℕ) where
  -- what is seen of a command's work: of the outside before and after it, and of what it came to
  abbrev pub work_over : (O → OutsideShown) → O → O → Outcome S V → Work
  work_over shown old new outcome = record {
    before = shown old;
    after = shown new;
    readers = map (reader_seen left faults says inquiries verifier_faults) outcome.readers.items;
    signer = None;
    journal = outcome.journal;
    owed = option_map (λ text. text.items) outcome.owed;
    besides = outcome.besides;
  }

  module _ {G : Type 0} (gives : G → Key → List ℕ → Option Sig) (signings : G → Option (List Signing)) (signer_faults : G → ℕ) where
    -- the same with its signer
    abbrev pub signed_over : (O → OutsideShown) → O → O → SignedOutcome S V G → Work
    signed_over shown old new signed =
        record (work_over shown old new signed.outcome) { signer = signer_seen gives signings signer_faults signed.signer }

-- what the outcome of a command owes was written, and the status is by what it found
abbrev pub IsFinished : {S V : Type 0} → Outcome S V → Run → Type 0
IsFinished outcome run = EndsRun (option_map (λ text. text.items) outcome.owed) outcome.besides run
