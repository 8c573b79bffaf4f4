-- What a reader does for its job.
use Rattle.std.specs.Prelude.{ℕ, Bool, List, [], map, Option}
use Rattle.cesr_codes.specs.declared.key.Key.{Key}
use Rattle.cesr_codes.specs.declared.sig.Sig.{Sig}
use Rattle.journal.specs.Journal.History.{Told}
use Rattle.keri_outside.specs.declared.inquiry.Inquiry.{Inquiry}
use Rattle.keri_outside.specs.declared.limits.Limits.{Limits}
use Rattle.run_status.specs.RunStatus.Readers.{reader_seen, source_seen, verifier_seen}
use Rattle.turn_lock.specs.Known.{OwnsAlone}
use Rattle.turn_lock.specs.Locks.{IsPassOf, known, lock_of}
use Rattle.turn_lock.specs.declared.pass.Pass.{Pass}
use Rattle.reader_hub.specs.declared.reader_hub.core_head.CoreHead.{CoreHead}
use Rattle.reader_hub.specs.declared.reader_hub.hub.Hub.{Hub}
use Rattle.reader_hub.specs.ReaderThreads.Given.{given_by}
use Rattle.reader_hub.specs.ReaderThreads.Runs.{PassSeen, ReadsStream, RunsBy}
use Rattle.reader_hub.specs.declared.reader_threads.job.Job.{Job}
use Rattle.reader_hub.specs.declared.reader_threads.job.JobEnd.{JobEnd}
use Rattle.reader_hub.specs.declared.shared_reader.reader.Reader.{Reader}

module _ {C : Type 0} where
  module _ {g : _} where
    abbrev pub pass_seen : Pass C Told CoreHead g → PassSeen
    pass_seen pass = record { lock = lock_of pass; pass = known pass }

    abbrev pub passes_seen : List (Pass C Told CoreHead g) → List PassSeen
    passes_seen passes = map pass_seen passes

-- the pass of a job is of the hub, and its share is empty
abbrev pub IsFit : {S V : Type 0} → Hub → Job S V → Type 0
IsFit hub job = IsPassOf hub.turn job.pass × OwnsAlone (known job.pass) []

module _ {S V : Type 0} (left : S → Option (List ℕ)) (faults : S → ℕ) (says : V → Key → List ℕ → Sig → Option Bool)
    (inquiries : V → Option (List Inquiry)) (verifier_faults : V → ℕ) (limits : Limits) (limit : ℕ) where
  -- the reader read its stream, and so this is handed back
  abbrev pub HasReadStream : Reader S V → JobEnd S V → Type 0
  HasReadStream reader end = ReadsStream limits limit reader.extent (source_seen left faults says inquiries verifier_faults reader.source)
      (verifier_seen left faults says inquiries verifier_faults reader.verifier) (pass_seen reader.pass)
      (reader_seen left faults says inquiries verifier_faults end.reader) (pass_seen end.pass)

  -- what a reader hands back, for its job
  abbrev pub HasRun : Job S V → JobEnd S V → Type 0
  HasRun job end = RunsBy limits limit job.extent (given_by left faults says inquiries verifier_faults job.providers).source
      (given_by left faults says inquiries verifier_faults job.providers).verifier (pass_seen job.pass)
      (reader_seen left faults says inquiries verifier_faults end.reader) (pass_seen end.pass)
