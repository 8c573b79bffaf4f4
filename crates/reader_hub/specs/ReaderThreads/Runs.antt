-- What one reader does with its pass.
use Rattle.std.specs.Prelude.{◌≡◌, ℕ, [], Option, Some, None}
use Rattle.keri_outside.specs.declared.limits.Limits.{Limits}
use Rattle.run_status.specs.RunStatus.Readers.{Reader, VerifierShown}
use Rattle.keri_outside.specs.Shown.{SourceShown}
use Rattle.run_status.specs.declared.run_status.close.Close.TheVariants.{ReadFault, VerifierFault}
use Rattle.turn_lock.specs.Locks.{LockId}
use Rattle.reader_hub.specs.ReaderHub.Hubs.{HubPass}
use Rattle.reader_hub.specs.declared.reader_hub.extent.Extent.{Extent}
use Rattle.reader_hub.specs.SharedReader.ReadsOne.{ReadsOne}
use Rattle.reader_hub.specs.SharedReader.Taken.{standing}
use Rattle.reader_hub.specs.ReaderThreads.Given.{unread}

-- what is seen of a pass: of which lock it is, and what it knows
pub record PassSeen : Type 0 where
  pub lock : LockId
  pub pass : HubPass

-- With a pass of a lock for so many turns, one stream was read and one verifier asked, to that extent. These are what is left of
-- both.
pub record ReadsStream (limits : Limits) (limit : ℕ) (extent : Extent) (source : SourceShown) (verifier : VerifierShown) (old : PassSeen) (reader : Reader)
    (new : PassSeen) : Type 0 where
  pub source_left : SourceShown
  pub verifier_left : VerifierShown
  pub source_is : reader.source ≡ Some source_left
  pub verifier_is : reader.verifier ≡ Some verifier_left
  pub none_seen : reader.seen ≡ []
  pub reads : ReadsOne limits (standing extent limit old.lock old.pass verifier.says verifier.inquiries verifier.faults [])
      (standing extent limit new.lock new.pass verifier_left.says verifier_left.inquiries verifier_left.faults reader.refused) source source_left reader.close

-- The stream was read where there were both a source and a verifier. Where one of them is lacking nothing was read, the pass and
-- the other one are as they were, and the reader ends by what is lacking.
abbrev pub RunsBy : Limits → ℕ → Extent → Option SourceShown → Option VerifierShown → PassSeen → Reader → PassSeen → Type 0
RunsBy limits limit extent None verifier old reader new = (new ≡ old) × (reader ≡ unread None verifier ReadFault)
RunsBy limits limit extent (Some source) None old reader new = (new ≡ old) × (reader ≡ unread (Some source) None VerifierFault)
RunsBy limits limit extent (Some source) (Some verifier) old reader new = ReadsStream limits limit extent source verifier old reader new
