-- What one call of a witness does.
use Rattle.std.specs.Prelude.{◌≡◌, ◌⊎◌, false, []}
use Rattle.std.specs.declared.result.Result.{Result}
use Rattle.std.specs.declared.result.Result.TheVariants.{Ok, Err}
use Rattle.cesr_stream.specs.declared.message.Message.{Message}
use Rattle.lists.specs.KeriSpecs.Causes.{Rose}
use Rattle.validator_core.specs.ValidatorCore.View.{open_of}
use Rattle.witness_core.specs.WitnessStore.Payloads.{AreListed}
use Rattle.witness_core.specs.WitnessStore.Starts.{ReadsAgain, StartsAgain}
use Rattle.witness_core.specs.WitnessStore.Storing.{AllStand, StoresOn}
use Rattle.witness_core.specs.WitnessCore.Telling.{IsTurnedAway, IsUntold, TellsEvent}
use Rattle.witness_core.specs.declared.witness_core.outcome.Outcome.{Outcome}
use Rattle.witness_core.specs.declared.witness_store.witness_fault.WitnessFault.{WitnessFault}
use Rattle.witness_core.specs.declared.witness_store.witness_fault.WitnessFault.TheVariants.{DiskFault, SignerFault, VerifierFault, LimitReached, Broken, OutOfMemory}
use Rattle.witness_core.specs.WitnessLink.Calls.{IsNotTurnedAway, IsCall}
use Rattle.witness_core.specs.WitnessLink.Stored.{HoldsAccepted, IsLawfulList}
use Rattle.witness_core.specs.WitnessLink.Links.{Counts, Standing, Terms, WitnessShown, standing_of}

-- none of them failed but the one whose fault it is
abbrev pub Counted : Counts → Counts → WitnessFault → Type 0
Counted old new DiskFault = Rose old.disk new.disk × (new.verifier ≡ old.verifier) × (new.signer ≡ old.signer)
Counted old new VerifierFault = (new.disk ≡ old.disk) × Rose old.verifier new.verifier × (new.signer ≡ old.signer)
Counted old new SignerFault = (new.disk ≡ old.disk) × (new.verifier ≡ old.verifier) × Rose old.signer new.signer
Counted old new LimitReached = new ≡ old
Counted old new OutOfMemory = new ≡ old
Counted old new Broken = ⊥

-- The witness is whole, and has stored all that is accepted: its list reads as that, and a start from it fails for want of memory
-- alone.
pub record IsWhole (witness : WitnessShown) : Type 0 where
  pub whole : witness.broken ≡ false
  pub listed : AreListed witness.core witness.list
  pub read : ReadsAgain witness.core witness.list
  pub starts : StartsAgain witness.list

-- Each image of its disk stands for the list, which has the payloads of the accepted events, each with its event's bytes at its
-- front. The list is lawful, it reads as these events, and a start from it fails for want of memory alone.
pub record IsSound (witness : WitnessShown) : Type 0 where
  pub stand : AllStand witness.disk witness.list witness.list
  pub listed : AreListed witness.core witness.list
  pub holds : HoldsAccepted witness.core witness.list
  pub lawful : IsLawfulList witness.list
  pub read : ReadsAgain witness.core witness.list
  pub starts : StartsAgain witness.list

-- What became of the witness at a message that it failed to take to its end. Where there is no room, nothing more was told, and
-- there still is none for it. Without memory its event may have come, or not. Else it came, and there was room for it; and but for a
-- fault of the disk, all that is accepted is stored.
abbrev pub FailsAt : Terms → Standing → Message → WitnessShown → WitnessFault → Type 0
FailsAt terms old m new DiskFault = IsNotTurnedAway terms old m × TellsEvent terms.says old.core m new.core
FailsAt terms old m new VerifierFault = IsNotTurnedAway terms old m × TellsEvent terms.says old.core m new.core × IsWhole new
FailsAt terms old m new SignerFault = IsNotTurnedAway terms old m × TellsEvent terms.says old.core m new.core × (open_of new.core ≡ []) × IsWhole new
FailsAt terms old m new LimitReached = IsTurnedAway terms.limits new.core new.list m × IsUntold old.core new.core × (new.list ≡ old.list) × IsWhole new
FailsAt terms old m new OutOfMemory = IsUntold old.core new.core ⊎ TellsEvent terms.says old.core m new.core
FailsAt terms old m new Broken = ⊥

-- its key and its limits are the same, and what was stored before and since, which is lawful
pub record KeepsSame (old new : WitnessShown) : Type 0 where
  pub key : new.key ≡ old.key
  pub limits : new.limits ≡ old.limits
  pub stores : StoresOn old.list old.disk new.core new.list new.disk
  pub lawful : IsLawfulList stores.accepted

-- TAKES: a message was taken, or the witness failed at it
abbrev pub TakesMessage : Terms → Counts → Counts → Message → WitnessShown → WitnessShown → Result Outcome WitnessFault → Type 0
TakesMessage terms counts_old counts_new m old new (Ok outcome) =
    IsCall terms (standing_of old) (record { message = m; fate = outcome.fate; receipts = outcome.receipts.items; behind = standing_of new })
    × IsWhole new × (counts_new ≡ counts_old)
TakesMessage terms counts_old counts_new m old new (Err fault) = FailsAt terms (standing_of old) m new fault × Counted counts_old counts_new fault
