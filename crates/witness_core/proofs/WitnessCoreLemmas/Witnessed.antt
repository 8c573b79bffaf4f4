-- What a witness keeps from call to call.
use Rattle.std.proofs.Common.{◌≡◌, ◌≤◌, ℕ, Bool, false, List, All, length, map, take, Option, Err, refl, sym, ◌∙◌, ap, subst, arith}
use Rattle.std.specs.Prelude.{IfSome}
use Rattle.std.proofs.lemmas.Bool.{true≢false}
use Rattle.std.proofs.lemmas.List.{length-map, take_all}
use Rattle.journal_views.specs.EventPayload.Payloads.{text_in}
use Rattle.cesr_codes.specs.declared.key.Key.{Key}
use Rattle.cesr_codes.specs.declared.sig.Sig.{Sig}
use Rattle.cesr_stream.specs.declared.message.Message.{Message}
use Rattle.key_state.specs.Kept.{IsKept}
use Rattle.shelf_log.specs.KeriDisk.Images.{DiskShown}
use Rattle.keri_outside.specs.declared.limits.Limits.{Limits}
use Rattle.shelf_log.specs.ShelfLog.Format.{Holds}
use Rattle.shelf_log.specs.ShelfLog.OnDisk.{AllHold, HoldsDurably}
use Rattle.shelf_log.specs.declared.shelf_log.version.Version.TheVariants.{Two}
use Rattle.journal.specs.declared.journal.body.Body.{Body}
use Rattle.validator_core.specs.ValidatorCore.View.{CoreView, accepted_by}
use Rattle.witness_core.specs.WitnessCore.Faults.{Goes}
use Rattle.witness_core.specs.WitnessStore.Faults.{StoresStill, breaks}
use Rattle.witness_core.specs.WitnessStore.Histories.{history_of}
use Rattle.witness_core.specs.WitnessStore.Payloads.{AreListed}
use Rattle.witness_core.specs.WitnessStore.Starts.{IsFirstRoom, IsStarted, ReadsAgain}
use Rattle.witness_core.specs.WitnessStore.Storing.{AreStored, GoesOn, StoresOn, missing, payloads}
use Rattle.witness_core.specs.WitnessCore.Telling.{IsUntold, TellsFault}
use Rattle.witness_core.specs.declared.witness_store.room.Room.{Room}
use Rattle.witness_core.specs.declared.witness_store.witness_fault.WitnessFault.{WitnessFault}
use Rattle.witness_core.specs.declared.witness_store.witness_fault.WitnessFault.TheVariants.{DiskFault, SignerFault, VerifierFault, LimitReached, Broken, OutOfMemory}
use Rattle.witness_core.proofs.WitnessCoreLemmas.Listed.{listed}
use Rattle.witness_core.proofs.WitnessCoreLemmas.Starting.{started}
use Rattle.witness_core.proofs.WitnessStoreLemmas.Stored.{payloads_all}

-- STORED: what is stored is listed
pub are_listed : (core : CoreView) (list : List (List ℕ)) (limits : Limits) (broken : Bool) (shown : DiskShown) (room : Room) → All (λ b. IsKept b.event) (accepted_by core)
    → AreStored (history_of core) list limits broken shown room → AreListed core list
are_listed core list limits broken shown room all stored = subst (AreListed core) (payloads_all (history_of core) list stored.all) (listed core list all stored.on_way)

-- and reads as the accepted events
pub reads_again : (core : CoreView) (list : List (List ℕ)) (limits : Limits) (broken : Bool) (shown : DiskShown) (room : Room) → AreStored (history_of core) list limits broken shown room → ReadsAgain core list
reads_again core list limits broken shown room stored =
    stored.on_way.read ∙ ap (λ n. map (λ (b : Body). b.bytes) (take n (accepted_by core))) stored.all ∙ ap (map (λ (b : Body). b.bytes)) (take_all (length (accepted_by core)) (accepted_by core) (omega arith))

-- and goes on so
pub stores_on : (old : List (List ℕ)) (disk_old : DiskShown) (core : CoreView) (new : List (List ℕ)) (disk_new : DiskShown) → All (λ b. IsKept b.event) (accepted_by core)
    → GoesOn old disk_old (history_of core) new disk_new → StoresOn old disk_old core new disk_new
stores_on old disk_old core new disk_new all goes = record {
  accepted = payloads (history_of core) new;
  listed = listed core new all goes.on_way;
  grown = goes.grown;
  first = (missing (history_of core) new, refl);
  longer = goes.longer;
  images = goes.images;
  moments = goes.moments;
}

-- BROKEN: by just those faults that leave something unstored
module _ (S : Type 0) where
  still : (fault : WitnessFault) → StoresStill fault S → breaks fault ≡ false → S
  still DiskFault kept whole = absurd (true≢false whole)
  still OutOfMemory kept whole = absurd (true≢false whole)
  still SignerFault kept whole = kept
  still VerifierFault kept whole = kept
  still LimitReached kept whole = kept
  still Broken kept whole = absurd kept

  pub still_stored : (fault : WitnessFault) → StoresStill fault S → (broken : Bool) → broken ≡ breaks fault → broken ≡ false → S
  still_stored fault kept broken is whole = still fault kept (sym is ∙ whole)

  goes_so : (T : Type 0) (fault : WitnessFault) → StoresStill fault S → Goes {T = T} false (breaks fault) (Err fault)
  goes_so T DiskFault kept = refl
  goes_so T OutOfMemory kept = refl
  goes_so T SignerFault kept = refl
  goes_so T VerifierFault kept = refl
  goes_so T LimitReached kept = refl
  goes_so T Broken kept = kept

  pub goes_by : (T : Type 0) (fault : WitnessFault) → StoresStill fault S → (old new : Bool) → old ≡ false → new ≡ breaks fault → Goes {T = T} old new (Err fault)
  goes_by T fault kept old new whole is = subst (λ b. Goes {T = T} b new (Err fault)) (sym whole) (subst (λ b. Goes {T = T} false b (Err fault)) (sym is) (goes_so T fault kept))

-- at a fault for want of room nothing was told
pub full_untold : (says : Key → List ℕ → Sig → Option Bool) (old : CoreView) (m : Message) (fault : WitnessFault) (new : CoreView) → TellsFault says old m fault new → fault ≡ LimitReached → IsUntold old new
full_untold says old m fault new tells is = subst (λ (f : WitnessFault). TellsFault says old m f new) is tells

-- STARTED: the list of a shelf on the disk
pub durable_holds : (shown : DiskShown) (list : List (List ℕ)) → HoldsDurably shown list → AllHold shown list
durable_holds shown list durable = λ c now. subst (λ (o : Option (List ℕ)). IfSome o (λ file. Holds Two file list)) (durable.0 c now) durable.1

pub started_stored : (core : CoreView) (list : List (List ℕ)) (limits shelf_limits : Limits) (broken : Bool) (disk : DiskShown) (room : Room) → IsStarted limits list core → IsFirstRoom core room → length list ≤ shelf_limits.records
    → broken ≡ false → AllHold disk list → AreStored (history_of core) list shelf_limits broken disk room
started_stored core list limits shelf_limits broken disk room is first few whole holds =
    subst (λ b. AreStored (history_of core) list shelf_limits b disk room) (sym whole)
    (started core list shelf_limits disk room (is.base ∙ length-map list text_in) is.log.reading.bytes_are is.log.fit is.entries first.sound.in_order first.signatures first.reserved few holds)
