-- What becomes of what is stored when an event is stored, and its questions are asked.
use Rattle.std.proofs.Common.{◌≡◌, ℕ, Bool, List, [], ◌∷◌, ◌++◌, length, slice_get, Option, Some, sym, ◌∙◌, ap, subst, inr, append_assoc, append-nil}
use Rattle.std.specs.Prelude.{All}
use Rattle.std.proofs.lemmas.List.Elements.{All-head, All-tail}
use Rattle.cesr_codes.specs.declared.key.Key.{Key}
use Rattle.cesr_codes.specs.declared.sig.Sig.{Sig}
use Rattle.cesr_stream.specs.declared.message.Message.{Message}
use Rattle.validator_core.specs.Tables.View.{body_of}
use Rattle.journal.specs.declared.journal.body.Body.{Body}
use Rattle.journal.specs.Journal.History.{Told, bodies, heard, took}
use Rattle.shelf_log.specs.KeriDisk.Images.{DiskShown}
use Rattle.shelf_log.proofs.KeriDiskLemmas.Moments.{KnowsNow}
use Rattle.keri_outside.specs.declared.limits.Limits.{Limits}
use Rattle.validator_core.specs.ValidatorCore.View.{CoreView, IsSoundCore, base_of, told_of}
use Rattle.validator_core.specs.ValidatorCore.Verdicts.{IsVerdict}
use Rattle.validator_core.proofs.ValidatorCoreLemmas.Bodies.{bodies_heard}
use Rattle.witness_core.specs.WitnessStore.Faults.{AskFault, StoreFault}
use Rattle.witness_core.specs.WitnessStore.Histories.{history_of, log_in}
use Rattle.witness_core.specs.WitnessStore.Room.{IsKnown}
use Rattle.witness_core.specs.WitnessStore.Storing.{Appends, AreStored, GoesOn}
use Rattle.witness_core.specs.WitnessCore.Telling.{Hears, IsReady, IsTakenAs, IsUntold, TellsEvent, TellsFault}
use Rattle.witness_core.specs.declared.witness_store.room.Room.{Room}
use Rattle.witness_core.specs.declared.witness_core.taken.Taken.TheVariants.{Event as EventTaken}
use Rattle.witness_core.specs.declared.witness_store.witness_fault.WitnessFault.{WitnessFault}
use Rattle.witness_core.specs.declared.witness_store.witness_fault.WitnessFault.TheVariants.{DiskFault, SignerFault, VerifierFault, LimitReached, Broken, OutOfMemory}
use Rattle.witness_core.proofs.WitnessCoreLemmas.Entering.{untold_itself}
use Rattle.witness_core.proofs.WitnessCoreLemmas.Judging.{one_judged}
use Rattle.witness_core.proofs.WitnessStoreLemmas.RoomSteps.{held_is}
use Rattle.witness_core.proofs.WitnessStoreLemmas.Stored.{goes_more, goes_none, goes_of}

-- SAME: where the core and the room are as they were
pub same_untold : (old new : CoreView) → new ≡ old → IsUntold old new
same_untold old new same = subst (IsUntold old) (sym same) (untold_itself old)

module _ (old : CoreView) (list : List (List ℕ)) (limits : Limits) (broken : Bool) (disk : DiskShown) (knows : KnowsNow disk) (room : Room) (stored : AreStored (history_of old) list limits broken disk room)
    (new : CoreView) (same : new ≡ old) where
  pub same_stored : (room_then : Room) → room_then ≡ room → AreStored (history_of new) list limits broken disk room_then
  same_stored room_then same_room = subst (λ (c : CoreView). AreStored (history_of c) list limits broken disk room_then) (sym same) (subst (AreStored (history_of old) list limits broken disk) (sym same_room) stored)

  pub same_goes : GoesOn list disk (history_of new) list disk
  same_goes = subst (λ (c : CoreView). GoesOn list disk (history_of c) list disk) (sym same) (goes_none (history_of old) list disk knows stored.on_way stored.holds)

-- TOLD: where the disk failed, or there was no memory
module _ (disk disk_then : ℕ) where
  pub store_tells : (says : Key → List ℕ → Sig → Option Bool) (old : CoreView) (m : Message) (new : CoreView) → TellsEvent says old m new → (fault : WitnessFault) → StoreFault disk disk_then fault
      → TellsFault says old m fault new
  store_tells says old m new tells DiskFault f = tells
  store_tells says old m new tells OutOfMemory f = inr tells
  store_tells says old m new tells SignerFault f = absurd f
  store_tells says old m new tells VerifierFault f = absurd f
  store_tells says old m new tells LimitReached f = absurd f
  store_tells says old m new tells Broken f = absurd f

  -- or the verifier failed
  module _ (verifier verifier_then : ℕ) where
    pub ask_tells : (says : Key → List ℕ → Sig → Option Bool) (old : CoreView) (m : Message) (new : CoreView) → TellsEvent says old m new → (fault : WitnessFault)
        → AskFault disk disk_then verifier verifier_then fault → TellsFault says old m fault new
    ask_tells says old m new tells DiskFault f = tells
    ask_tells says old m new tells VerifierFault f = tells
    ask_tells says old m new tells OutOfMemory f = inr tells
    ask_tells says old m new tells SignerFault f = absurd f
    ask_tells says old m new tells LimitReached f = absurd f
    ask_tells says old m new tells Broken f = absurd f

-- stored, and then verdicts
pub goes_asked : (mid new : CoreView) (first list longer : List (List ℕ)) (told middle last : DiskShown) → Appends first told (history_of mid) list middle → length list ≡ length (log_in (history_of mid))
    → GoesOn list middle (history_of new) longer last → GoesOn first told (history_of new) longer last
goes_asked mid new first list longer told middle last appends all goes =
    goes_more (history_of mid) (history_of new) first list longer told middle last (goes_of (history_of mid) first list told middle appends) all goes

-- NUMBERED: verdicts add no bodies
module _ (says : Key → List ℕ → Sig → Option Bool) where
  verdicts_add : (base : List Body) (earlier verdicts : List Told) → All (IsVerdict says) verdicts → bodies base (earlier ++ verdicts) ≡ bodies base earlier
  verdicts_add base earlier [] each = ap (bodies base) (append-nil earlier)
  verdicts_add base earlier (heard reader b key sig verdict ∷ verdicts) each =
      let t = heard reader b key sig verdict in
      ap (bodies base) (sym (append_assoc earlier (t ∷ []) verdicts))
      ∙ verdicts_add base (earlier ++ t ∷ []) verdicts (All-tail (IsVerdict says) t verdicts each)
      ∙ bodies_heard base earlier reader b key sig verdict
  verdicts_add base earlier (took reader b claims ∷ verdicts) each = absurd (All-head (IsVerdict says) (took reader b claims) verdicts each)

  module _ (mid new : CoreView) (known : IsKnown mid) (stands : IsSoundCore new) (hears : Hears says mid new) where
    held_still : new.held ≡ mid.held
    held_still =
        stands.in_order
        ∙ (λ i. bodies (hears.follows.bodies i) (hears.behind i))
        ∙ verdicts_add (base_of mid) (told_of mid) hears.verdicts hears.each
        ∙ sym (held_is mid known)

    -- TAKEN: the number is still that of the message's body
    pub taken_as : (limits : Limits) (old : CoreView) (list longer : List (List ℕ)) (m : Message) (number : ℕ) (room : Room) → IsReady limits old list m number mid room
        → IsTakenAs new list longer m (EventTaken number)
    taken_as limits old list longer m number room ready = λ event judged.
        ap (λ l. slice_get l number) held_still ∙ ready.numbered ∙ ap (λ e. Some (body_of m.body e)) (one_judged m ready.event event ready.judged judged)
