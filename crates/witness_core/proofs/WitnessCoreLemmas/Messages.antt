-- What becomes of what is stored when a message comes.
use Rattle.std.proofs.Common.{◌≡◌, ℕ, Bool, false, List, ◌++◌, Option, Ok, refl, sym, ◌∙◌, ap, subst, inl, inr}
use Rattle.cesr_codes.specs.declared.key.Key.{Key}
use Rattle.cesr_codes.specs.declared.sig.Sig.{Sig}
use Rattle.cesr_stream.specs.declared.message.Message.{Message}
use Rattle.validator_core.specs.Tables.View.{body_of}
use Rattle.event_body.specs.EventBody.Events.{is_receipt}
use Rattle.event_body.specs.declared.event_body.event.Event.{Event}
use Rattle.journal.specs.declared.journal.body.Body.{Body}
use Rattle.journal.specs.declared.journal.claim.Claim.{Claim}
use Rattle.journal.specs.Journal.Grown.{IsGrown}
use Rattle.journal.specs.Journal.History.{took}
use Rattle.journal.specs.Journal.Replies.{claims_of}
use Rattle.shelf_log.specs.KeriDisk.Images.{DiskShown}
use Rattle.shelf_log.proofs.KeriDiskLemmas.Moments.{KnowsNow}
use Rattle.keri_outside.specs.declared.inquiry.Inquiry.{Inquiry}
use Rattle.keri_outside.specs.declared.limits.Limits.{Limits}
use Rattle.validator_core.specs.ValidatorCore.Messages.{JudgesMessage}
use Rattle.validator_core.specs.ValidatorCore.View.{CoreView, Follows}
use Rattle.witness_core.specs.WitnessCore.Faults.{TakeFault}
use Rattle.witness_core.specs.WitnessStore.Faults.{StoresStill}
use Rattle.witness_core.specs.WitnessStore.Histories.{history_of}
use Rattle.witness_core.specs.WitnessStore.Storing.{AreStored, GoesOn, IsOnWay}
use Rattle.witness_core.specs.WitnessCore.Telling.{AsksVerdicts, Came, Fails, FailsMessage, Hears, IsUntold, TellsEvent, TellsFault, full, untold, told}
use Rattle.witness_core.specs.declared.witness_store.room.Room.{Room}
use Rattle.witness_core.specs.declared.witness_store.witness_fault.WitnessFault.{WitnessFault}
use Rattle.witness_core.specs.declared.witness_store.witness_fault.WitnessFault.TheVariants.{DiskFault, SignerFault, VerifierFault, LimitReached, Broken, OutOfMemory}
use Rattle.validator_core.proofs.ValidatorCoreLemmas.OpenQuestions.{follows_on}
use Rattle.witness_core.proofs.WitnessCoreLemmas.Heard.{came_asks, hears_none, untold_asks}
use Rattle.witness_core.proofs.WitnessStoreLemmas.Entries.{history_follows, history_same, on_way_more}
use Rattle.witness_core.proofs.WitnessStoreLemmas.Stored.{goes_none}

module _ (says : Key → List ℕ → Sig → Option Bool) (m : Message) (event : Event) (judged : JudgesMessage m (Ok event)) (no_receipt : is_receipt event ≡ false) where
  -- its entry, and then verdicts
  pub tells : (old mid new : CoreView) → Came (body_of m.body event) (claims_of m) old mid → Hears says mid new → TellsEvent says old m new
  tells old mid new came hears = record {
    event = event;
    judged = judged;
    no_receipt = no_receipt;
    verdicts = hears.verdicts;
    behind = hears.behind ∙ ap (λ l. l ++ hears.verdicts) came.told;
    each = hears.each;
    follows = follows_on came.follows hears.follows;
  }

  pub tells_first : (old mid : CoreView) → Came (body_of m.body event) (claims_of m) old mid → TellsEvent says old m mid
  tells_first old mid came = tells old mid mid came (hears_none says mid)

module _ (old : CoreView) (list : List (List ℕ)) (limits : Limits) (broken : Bool) (disk : DiskShown) (knows : KnowsNow disk) (room : Room) (stored : AreStored (history_of old) list limits broken disk room) where
  -- nothing was told
  untold_goes : (new : CoreView) → IsUntold old new → GoesOn list disk (history_of new) list disk
  untold_goes new is = goes_none (history_of new) list disk knows (subst (λ h. IsOnWay h list) (sym (history_same old new is.follows is.told)) stored.on_way) stored.holds

  -- an event was told, and nothing is appended yet
  pub came_way : (new : CoreView) (b : Body) (claims : List Claim) → Came b claims old new → IsOnWay (history_of new) list
  came_way new b claims came = subst (λ h. IsOnWay h list) (sym (history_follows old new (took 0 b claims) came.follows came.told)) (on_way_more (history_of old) (took 0 b claims) list stored.all stored.on_way)

  pub came_grown : (new : CoreView) (b : Body) (claims : List Claim) → Came b claims old new → IsGrown (history_of new).base
  came_grown new b claims came = subst (λ h. IsGrown h.base) (sym (history_follows old new (took 0 b claims) came.follows came.told)) stored.grown

  came_goes : (new : CoreView) (b : Body) (claims : List Claim) → Came b claims old new → GoesOn list disk (history_of new) list disk
  came_goes new b claims came = goes_none (history_of new) list disk knows (came_way new b claims came) stored.holds

  module _ (new : CoreView) (room_then : Room) where
    fails_goes : (no_room : Type 0) (b : Body) (claims : List Claim) (fault : WitnessFault) → Fails no_room b claims old room new room_then fault → GoesOn list disk (history_of new) list disk
    fails_goes no_room b claims LimitReached (full turned none same) = untold_goes new none
    fails_goes no_room b claims OutOfMemory (untold none) = untold_goes new none
    fails_goes no_room b claims OutOfMemory (told came) = came_goes new b claims came
    fails_goes no_room b claims DiskFault f = elim f [ ]
    fails_goes no_room b claims SignerFault f = elim f [ ]
    fails_goes no_room b claims VerifierFault f = elim f [ ]
    fails_goes no_room b claims Broken f = elim f [ ]

    fails_follows : (no_room : Type 0) (b : Body) (claims : List Claim) (fault : WitnessFault) → Fails no_room b claims old room new room_then fault → Follows old new
    fails_follows no_room b claims LimitReached (full turned none same) = none.follows
    fails_follows no_room b claims OutOfMemory (untold none) = none.follows
    fails_follows no_room b claims OutOfMemory (told came) = came.follows
    fails_follows no_room b claims DiskFault f = elim f [ ]
    fails_follows no_room b claims SignerFault f = elim f [ ]
    fails_follows no_room b claims VerifierFault f = elim f [ ]
    fails_follows no_room b claims Broken f = elim f [ ]

    fails_kept : (no_room : Type 0) (b : Body) (claims : List Claim) (fault : WitnessFault) → Fails no_room b claims old room new room_then fault
        → StoresStill fault (AreStored (history_of new) list limits broken disk room_then)
    fails_kept no_room b claims LimitReached (full turned none same) = subst (λ h. AreStored h list limits broken disk room_then) (sym (history_same old new none.follows none.told)) (subst (AreStored (history_of old) list limits broken disk) (sym same) stored)
    fails_kept no_room b claims OutOfMemory (untold none) = tt
    fails_kept no_room b claims OutOfMemory (told came) = tt
    fails_kept no_room b claims DiskFault f = elim f [ ]
    fails_kept no_room b claims SignerFault f = elim f [ ]
    fails_kept no_room b claims VerifierFault f = elim f [ ]
    fails_kept no_room b claims Broken f = elim f [ ]

    fails_caused : (no_room : Type 0) (b : Body) (claims : List Claim) (fault : WitnessFault) → Fails no_room b claims old room new room_then fault → (d v : ℕ) → TakeFault d d v v fault
    fails_caused no_room b claims LimitReached (full turned none same) d v = (refl, refl)
    fails_caused no_room b claims OutOfMemory (untold none) d v = (refl, refl)
    fails_caused no_room b claims OutOfMemory (told came) d v = (refl, refl)
    fails_caused no_room b claims DiskFault f d v = elim f [ ]
    fails_caused no_room b claims SignerFault f d v = elim f [ ]
    fails_caused no_room b claims VerifierFault f d v = elim f [ ]
    fails_caused no_room b claims Broken f d v = elim f [ ]

    fails_asks : (before : Option (List Inquiry)) (no_room : Type 0) (b : Body) (claims : List Claim) (fault : WitnessFault) → Fails no_room b claims old room new room_then fault → AsksVerdicts before before old new
    fails_asks before no_room b claims LimitReached (full turned none same) = untold_asks before old new none
    fails_asks before no_room b claims OutOfMemory (untold none) = untold_asks before old new none
    fails_asks before no_room b claims OutOfMemory (told came) = came_asks before old b claims new came
    fails_asks before no_room b claims DiskFault f = elim f [ ]
    fails_asks before no_room b claims SignerFault f = elim f [ ]
    fails_asks before no_room b claims VerifierFault f = elim f [ ]
    fails_asks before no_room b claims Broken f = elim f [ ]

    module _ (m : Message) (fault : WitnessFault) where
      abbrev Failed : Type 0
      Failed = FailsMessage m old room new room_then fault

      pub message_goes : Failed → GoesOn list disk (history_of new) list disk
      message_goes (inl f) = fails_goes (Unit {0}) (body_of m.body f.0) (claims_of m) fault f.3
      message_goes (inr f) = untold_goes new f.1

      pub message_follows : Failed → Follows old new
      message_follows (inl f) = fails_follows (Unit {0}) (body_of m.body f.0) (claims_of m) fault f.3
      message_follows (inr f) = f.1.follows

      pub message_asks : (before : Option (List Inquiry)) → Failed → AsksVerdicts before before old new
      message_asks before (inl f) = fails_asks before (Unit {0}) (body_of m.body f.0) (claims_of m) fault f.3
      message_asks before (inr f) = untold_asks before old new f.1

      pub message_kept : Failed → StoresStill fault (AreStored (history_of new) list limits broken disk room_then)
      message_kept (inl f) = fails_kept (Unit {0}) (body_of m.body f.0) (claims_of m) fault f.3
      message_kept (inr f) = subst (λ (x : WitnessFault). StoresStill x (AreStored (history_of new) list limits broken disk room_then)) (sym f.0) tt

      pub message_caused : Failed → (d v : ℕ) → TakeFault d d v v fault
      message_caused (inl f) d v = fails_caused (Unit {0}) (body_of m.body f.0) (claims_of m) fault f.3 d v
      message_caused (inr f) d v = subst (TakeFault d d v v) (sym f.0) (refl, refl)

      fails_tell : (says : Key → List ℕ → Sig → Option Bool) (event : Event) → JudgesMessage m (Ok event) → is_receipt event ≡ false → (x : WitnessFault)
          → Fails (Unit {0}) (body_of m.body event) (claims_of m) old room new room_then x → TellsFault says old m x new
      fails_tell says event judged no_receipt LimitReached (full turned none same) = none
      fails_tell says event judged no_receipt OutOfMemory (untold none) = inl none
      fails_tell says event judged no_receipt OutOfMemory (told came) = inr (tells_first says m event judged no_receipt old new came)
      fails_tell says event judged no_receipt DiskFault f = elim f [ ]
      fails_tell says event judged no_receipt SignerFault f = elim f [ ]
      fails_tell says event judged no_receipt VerifierFault f = elim f [ ]
      fails_tell says event judged no_receipt Broken f = elim f [ ]

      pub message_tells : (says : Key → List ℕ → Sig → Option Bool) → Failed → TellsFault says old m fault new
      message_tells says (inl f) = fails_tell says f.0 f.2 f.1 fault f.3
      message_tells says (inr f) = subst (λ (x : WitnessFault). TellsFault says old m x new) (sym f.0) (inl f.1)
