-- What stands while a link is served.
use Rattle.std.specs.Prelude.{◌≡◌, ◌⊎◌, ℕ, List, [], ◌∷◌, ◌++◌, All, take}
use Rattle.std.specs.declared.option.Option.{Option}
use Rattle.std.specs.declared.result.Result.{Result}
use Rattle.std.specs.declared.result.Result.TheVariants.{Ok, Err}
use Rattle.cesr_stream.specs.declared.message.Message.{Message}
use Rattle.keri_outside.specs.declared.signing.Signing.{Signing}
use Rattle.lists.specs.KeriSpecs.Causes.{Rose}
use Rattle.lists.specs.KeriSpecs.Shown.{after}
use Rattle.run_status.specs.declared.run_status.close.Close.{Close}
use Rattle.run_status.specs.declared.run_status.close.Close.TheVariants.{End, Bad, ReadFault, VerifierFault, SignerFault, DiskFault, WriteFault, Malformed, LimitReached, OutOfMemory}
use Rattle.validator_core.specs.ValidatorCore.View.{open_of}
use Rattle.witness_core.specs.WitnessCore.Outcomes.{AsksSigner}
use Rattle.witness_core.specs.WitnessStore.Payloads.{AreListed}
use Rattle.witness_core.specs.WitnessStore.Storing.{StoresOn}
use Rattle.witness_core.specs.WitnessCore.Telling.{AsksVerdicts}
use Rattle.witness_core.specs.declared.witness_store.witness_fault.WitnessFault.{WitnessFault}
use Rattle.witness_core.specs.declared.witness_store.witness_fault.WitnessFault.TheVariants as fault
use Rattle.witness_core.specs.WitnessLink.Calls.{AreCalls, Call, digests_in, messages_in, receipts_in, refusals_in, signings_in, text_of}
use Rattle.witness_core.specs.WitnessLink.Links.{LinkShown, Standing, counts_of, standing_of, terms_of}
use Rattle.witness_core.specs.WitnessLink.Stored.{IsLawfulList, IsOfListed}
use Rattle.witness_core.specs.WitnessLink.Taking.{Counted, FailsAt, IsWhole}

-- SERVES: Messages were taken, one behind the other, and what became of them is noted. At each moment a stop leaves what was stored
-- before, and the first few of what was accepted since, which is lawful. Each receipt is of a stored event. Where no question was
-- open before, the verifier was asked for the verdicts that the core was told since, in order, and for nothing else, but maybe for
-- the first question that is open now.
pub record Serves (old new : LinkShown) : Type 0 where
  pub calls : List Call
  pub behind : Standing
  pub taken : AreCalls (terms_of old) (standing_of old.witness) calls behind
  pub refused_are : new.refused ≡ old.refused ++ refusals_in calls
  pub seen_are : new.seen ≡ old.seen ++ digests_in calls
  pub stores : StoresOn old.witness.list old.witness.disk new.witness.core new.witness.list new.witness.disk
  pub lawful : IsLawfulList stores.accepted
  pub of_stored : All (IsOfListed (terms_of old) new.witness.list) (receipts_in calls)
  pub same_terms : terms_of new ≡ terms_of old
  pub inquired : open_of old.witness.core ≡ [] → AsksVerdicts old.inquiries new.inquiries old.witness.core new.witness.core

-- the text of the receipts of these calls was written
abbrev pub Wrote : LinkShown → LinkShown → List Call → Type 0
Wrote old new calls = new.written ≡ after old.written (text_of (receipts_in calls))

-- what the signer has been asked once it was asked for the receipts that are due of these calls, in order, and for no others
abbrev pub signed_for : LinkShown → List Call → Option (List Signing)
signed_for old calls = after old.signings (signings_in old.witness.key old.witness.core calls)

module _ (old new : LinkShown) (serves : Serves old new) where
  -- all receipts were signed and written, the witness stands as behind the last message, and nothing failed
  pub record GoesOn : Type 0 where
    pub now : serves.behind ≡ standing_of new.witness
    pub signed : new.signings ≡ signed_for old serves.calls
    pub wrote : Wrote old new serves.calls
    pub is_whole : IsWhole new.witness
    pub counts_same : counts_of new ≡ counts_of old
    pub sink_same : new.sink_faults ≡ old.sink_faults

  -- All receipts were signed and written, and then the witness failed at a message. Of that one the signer was asked for the first
  -- few receipts that are due, where it failed itself or there was no memory, and else for none; and where it was asked for any, all
  -- that is accepted is stored.
  pub record FailsToTake (why : WitnessFault) (last : Message) : Type 0 where
    pub fails : FailsAt (terms_of old) serves.behind last new.witness why
    pub signed : AsksSigner old.witness.key serves.behind.core new.witness.core last (signed_for old serves.calls) new.signings (Err why)
    pub stored_where_asked : (new.signings ≡ signed_for old serves.calls) ⊎ AreListed new.witness.core new.witness.list
    pub wrote : Wrote old new serves.calls
    pub counted : Counted (counts_of old) (counts_of new) why
    pub sink_same : new.sink_faults ≡ old.sink_faults

  -- The sink failed at the receipts of the last message: all were signed, and a front of them was written behind those of the messages
  -- before it.
  pub record FailsToPut : Type 0 where
    pub earlier : List Call
    pub last : Call
    pub all : serves.calls ≡ earlier ++ last ∷ []
    pub signed : new.signings ≡ signed_for old serves.calls
    pub count : ℕ
    pub wrote : new.written ≡ after old.written (text_of (receipts_in earlier) ++ take count (text_of last.receipts))
    pub rose : Rose old.sink_faults new.sink_faults
    pub now : serves.behind ≡ standing_of new.witness
    pub is_whole : IsWhole new.witness
    pub counts_same : counts_of new ≡ counts_of old

  -- these messages were taken but the last, at which the witness failed
  abbrev pub StopsTaking : WitnessFault → List Message → Type 0
  StopsTaking why messages = (last : Message) × (messages ≡ messages_in serves.calls ++ last ∷ []) × FailsToTake why last

  -- why serving stopped at the last of these messages
  abbrev pub StopsBy : List Message → Close → Type 0
  StopsBy messages VerifierFault = StopsTaking fault.VerifierFault messages
  StopsBy messages SignerFault = StopsTaking fault.SignerFault messages
  StopsBy messages DiskFault = StopsTaking fault.DiskFault messages
  StopsBy messages LimitReached = StopsTaking fault.LimitReached messages
  StopsBy messages OutOfMemory = StopsTaking fault.OutOfMemory messages
  StopsBy messages WriteFault = (messages ≡ messages_in serves.calls) × FailsToPut
  StopsBy messages End = ⊥
  StopsBy messages (Bad bad) = ⊥
  StopsBy messages ReadFault = ⊥
  StopsBy messages (Malformed place) = ⊥

-- these messages were taken, and serving goes on
pub record HasServed (old new : LinkShown) (messages : List Message) : Type 0 where
  pub serves : Serves old new
  pub messages_are : messages_in serves.calls ≡ messages
  pub goes_on : GoesOn old new serves

-- serving stopped at the last of them
pub record HasEnded (old new : LinkShown) (close : Close) (messages : List Message) : Type 0 where
  pub serves : Serves old new
  pub stops : StopsBy old new serves messages close

-- one message was served, or serving stopped there
abbrev pub ServesOne : {T : Type 0} → Message → Result T Close → LinkShown → LinkShown → Type 0
ServesOne m (Ok done) old new = HasServed old new (m ∷ [])
ServesOne m (Err close) old new = HasEnded old new close (m ∷ [])
