-- How what was done becomes what is written, and the status.
use Rattle.std.specs.Prelude.{◌≡◌, ◌≢◌, ℕ, ◌⊎◌, ◌||◌, not, Bool, true, false, List, length, take, ◌==◌}
use Rattle.std.specs.List.{list_any}
use Rattle.std.specs.declared.option.Option.{Option}
use Rattle.std.specs.declared.option.Option.TheVariants.{None, Some}
use Rattle.lists.specs.KeriSpecs.Causes.{Rose}
use Rattle.lists.specs.KeriSpecs.Shown.{after}
use Rattle.cesr_codes.specs.declared.digest.Digest.{Digest}
use Rattle.journal.specs.declared.journal.refusal.Refusal.{Refusal}
use Rattle.run_status.specs.declared.run_status.besides.Besides.{Besides}
use Rattle.run_status.specs.declared.run_status.close.Close.{Close}
use Rattle.run_status.specs.declared.run_status.close.Close.TheVariants.{ReadFault, VerifierFault, SignerFault, DiskFault, WriteFault, LimitReached}
use Rattle.run_status.specs.declared.run_status.findings.Findings.{Findings}
use Rattle.run_status.specs.RunStatus.Readers.{Reader, HasClose, close_found}
use Rattle.keri_outside.specs.Shown.{SinkShown}
use Rattle.run_status.specs.RunStatus.Status.{status_of}

-- a reader that closed so and refused these messages refused its stream or a message
abbrev pub refuses : Close → List Refusal → Bool
refuses close refused = (close_found close).refused || not (length refused == 0)

-- to a reader that saw these digests an event came for a place at which another one is stored
abbrev pub saw_another : List Digest → Bool
saw_another seen = not (length seen == 0)

-- What is found where there was memory: of putting the text whether the sink failed; of the readers whether one closed by a fault
-- or a limit, whether to one an event came for a place at which another is stored, and whether one refused its stream or a
-- message; and what was found besides.
abbrev pub found : Besides → List Reader → Bool → Findings
found besides readers sink_failed = record {
  no_memory = false;
  sink_failed = list_any (λ r. (close_found r.close).sink_failed) readers || sink_failed;
  words_refused = besides.words_refused;
  source_failed = list_any (λ r. (close_found r.close).source_failed) readers || besides.door_failed;
  verifier_failed = list_any (λ r. (close_found r.close).verifier_failed) readers || besides.verifier_failed;
  signer_failed = list_any (λ r. (close_found r.close).signer_failed) readers || besides.signer_failed;
  disk_failed = list_any (λ r. (close_found r.close).disk_failed) readers || besides.disk_failed;
  limit_reached = list_any (λ r. (close_found r.close).limit_reached) readers || besides.shelf_full;
  conflict_found = list_any (λ r. saw_another r.seen) readers || besides.conflict_found;
  refused = list_any (λ r. refuses r.close r.refused) readers || (besides.plan_refused || (besides.shelf_refused || besides.prefix_unknown));
}

-- the text was put, or a front of it where the sink failed
abbrev pub Puts : List ℕ → Bool → SinkShown → SinkShown → Type 0
Puts text false old new = (new.written ≡ after old.written text) × (new.faults ≡ old.faults)
Puts text true old new = ((n : ℕ) × (new.written ≡ after old.written (take n text))) × Rose old.faults new.faults

-- There was no memory, and nothing is put; or the text is, and the status is by what is found.
abbrev pub EndsRunBy : Option (List ℕ) → Besides → List Reader → SinkShown → SinkShown → ℕ → Type 0
EndsRunBy None besides readers old new status = (status ≡ 10) × (new ≡ old)
EndsRunBy (Some text) besides readers old new status =
    (sink_failed : Bool) × Puts text sink_failed old new × (status ≡ status_of (found besides readers sink_failed))

-- Each fault that is answered has its cause: a reader closed by it, or it was found besides, or it is the sink's, whose count
-- rose.
pub record FaultsHaveCauses (readers : List Reader) (besides : Besides) (old new : SinkShown) (status : ℕ) : Type 0 where
  pub five : status ≡ 5 → HasClose ReadFault readers ⊎ (besides.door_failed ≡ true)
  pub seven : status ≡ 7 → HasClose VerifierFault readers ⊎ HasClose SignerFault readers ⊎ (besides.signer_failed ≡ true) ⊎ (besides.verifier_failed ≡ true)
  pub eight : status ≡ 8 → HasClose DiskFault readers ⊎ (besides.disk_failed ≡ true)
  pub nine : status ≡ 9 → HasClose LimitReached readers ⊎ (besides.shelf_full ≡ true)
  pub six : status ≡ 6 → HasClose WriteFault readers ⊎ Rose old.faults new.faults
  pub kept : status ≢ 6 → new.faults ≡ old.faults
