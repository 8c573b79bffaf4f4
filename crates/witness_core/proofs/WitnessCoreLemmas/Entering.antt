-- A body that comes: its number, its room, and the room of what waits.
use Rattle.std.proofs.Common.{◌≡◌, ◌<◌, ◌+◌, ◌*◌, ◌⊎◌, ℕ, Bool, true, false, List, [], ◌∷◌, ◌++◌, length, set, slice_get, get_or, Option, Some, None, refl, sym, ◌∙◌, ap, subst, arith, inl, inr, if◌then◌else◌}
use Rattle.std.specs.Prelude.{is_some, option_map, ◌==◌}
use Rattle.std.specs.List.{list_any}
use Rattle.std.proofs.lemmas.Bool.{cases_Bool}
use Rattle.std.proofs.lemmas.List.{length-map}
use Rattle.std.proofs.lemmas.Option.{slice_get_within}
use Rattle.validator_core.specs.Tables.View.{waiter_at}
use Rattle.claim_table.specs.CoreLaws.Waking.{is_waiting}
use Rattle.escrow.specs.declared.escrow.waiter.Waiter.{Waiter}
use Rattle.event_body.specs.EventBody.Events.{is_receipt}
use Rattle.journal.specs.declared.journal.body.Body.{Body}
use Rattle.journal.specs.declared.journal.claim.Claim.{Claim}
use Rattle.journal.specs.Journal.History.{took}
use Rattle.journal.specs.Journal.Logs.{is_in, same_body}
use Rattle.journal.proofs.JournalLemmas.Accepting.{same_body-refl}
use Rattle.journal.proofs.JournalLemmas.Places.{any_at, found_at}
use Rattle.validator_core.specs.ValidatorCore.View.{CoreView, accepted_by}
use Rattle.validator_core.proofs.ValidatorCoreLemmas.Bodies.{bodies_new, bodies_old}
use Rattle.witness_core.specs.WitnessStore.Histories.{bodies_in, history_of, log_in}
use Rattle.witness_core.specs.WitnessStore.Room.{IsKnown, IsRoom, signatures_in, signatures_on}
use Rattle.witness_core.specs.WitnessCore.Telling.{Came, Fails, IsUntold, full, untold}
use Rattle.witness_core.specs.declared.witness_store.room.Room.{Room}
use Rattle.witness_core.specs.declared.witness_store.witness_fault.WitnessFault.{WitnessFault}
use Rattle.witness_core.specs.declared.witness_store.witness_fault.WitnessFault.TheVariants.{LimitReached, OutOfMemory}
use Rattle.validator_core.proofs.ValidatorCoreLemmas.OpenQuestions.{follows_itself}
use Rattle.witness_core.proofs.WitnessStoreLemmas.Entries.{history_follows}
use Rattle.witness_core.proofs.WitnessStoreLemmas.RoomSteps.{among, held_differ, held_is, room_again, room_first}
use Rattle.witness_core.proofs.WitnessStoreLemmas.Waits.{number_listed, waiter_there}

-- nothing was told
pub untold_itself : (core : CoreView) → IsUntold core core
untold_itself core = record { told = refl; follows = follows_itself core }

-- FAILED: it wasn't told, for want of room or of memory
pub fails_by : (no_room : Type 0) (b : Body) (claims : List Claim) (old : CoreView) (room : Room) (new : CoreView) (fault : WitnessFault) → IsUntold old new → (fault ≡ LimitReached → no_room)
    → (fault ≡ LimitReached) ⊎ (fault ≡ OutOfMemory) → Fails no_room b claims old room new room fault
fails_by no_room b claims old room new fault none turned (inl f) = subst (Fails no_room b claims old room new room) (sym f) (full (turned f) none refl)
fails_by no_room b claims old room new fault none turned (inr m) = subst (Fails no_room b claims old room new room) (sym m) (untold none)

mapped_some : {X Y : Type 0} (f : X → Y) (o : Option X) → is_some o ≡ is_some (option_map f o)
mapped_some f None = refl
mapped_some f (Some x) = refl

at_end : (xs : List Body) (b : Body) → slice_get (xs ++ b ∷ []) (length xs) ≡ Some b
at_end [] b = refl
at_end (x ∷ xs) b = at_end xs b

module _ (core : CoreView) (known : IsKnown core) where
  -- WAITS: a waiter is found just where the event of a number waits
  pub waits_is : {X : Type 0} (f : X → Waiter) (o : Option X) (n : ℕ) (b : Body) → slice_get core.held n ≡ Some b → option_map f o ≡ waiter_at core.accepted n (slice_get core.held n)
      → is_some o ≡ is_waiting (log_in (history_of core)) b
  waits_is f o n b at is =
      let listed : list_any (λ m. m == n) core.accepted ≡ is_in (accepted_by core) b = number_listed core.held (held_differ core known) core.accepted known.held n b at ∙ ap (λ l. is_in l b) known.accepted in
      mapped_some f o ∙ waiter_there core.accepted n b (accepted_by core) listed (option_map f o) (is ∙ ap (waiter_at core.accepted n) at)

  -- a body that isn't held isn't accepted
  pub unlogged : (b : Body) → is_in core.held b ≡ false → is_in (log_in (history_of core)) b ≡ false
  unlogged b outside = elim (cases_Bool (is_in (accepted_by core) b)) [
    | inr k ↦ k
    | inl k ↦ (
        let f = found_at (λ c. same_body c b) (accepted_by core) k in
        let there = among core known f.0 f.1 f.2 in
        let inside : is_in (bodies_in (history_of core)) b ≡ true = any_at (λ c. same_body c b) (bodies_in (history_of core)) there.0 f.1 there.1 f.3 in
        let no : true ≡ false = sym inside ∙ ap (λ l. is_in l b) (sym (held_is core known)) ∙ outside in
        cc)
  ]

  pub number_within : (stored : ℕ) (room : Room) → IsRoom (history_of core) stored room → (n : ℕ) (b : Body) → slice_get core.held n ≡ Some b → n < length room.signatures.items
  number_within stored room is n b at =
      omega (arith, slice_get_within core.held n b at, ap length (held_is core known), ap length is.signatures, length-map (bodies_in (history_of core)) (signatures_on (history_of core).told))

  pub there_in : (n : ℕ) (b : Body) → slice_get core.held n ≡ Some b → slice_get (bodies_in (history_of core)) n ≡ Some b
  there_in n b at = ap (λ l. slice_get l n) (sym (held_is core known)) ∙ at

  module _ (new : CoreView) (known_then : IsKnown new) (b : Body) (claims : List Claim) (came : Came b claims core new) where
    -- AGAIN: the body keeps its number
    pub again_number : (n : ℕ) → slice_get core.held n ≡ Some b → slice_get new.held n ≡ Some b
    again_number n at =
        let h = history_of core in
        let there : slice_get (bodies_in h) n ≡ Some b = there_in n b at in
        let same : new.held ≡ bodies_in h = held_is new known_then ∙ ap bodies_in (history_follows core new (took 0 b claims) came.follows came.told)
        ∙ bodies_old h.base h.told 0 b claims (any_at (λ c. same_body c b) (bodies_in h) n b there (same_body-refl b)) in
        ap (λ l. slice_get l n) same ∙ there

    -- FIRST: it is the last
    pub first_number : (n : ℕ) → n ≡ length core.held → is_in core.held b ≡ false → slice_get new.held n ≡ Some b
    first_number n last outside =
        let h = history_of core in
        let out : is_in (bodies_in h) b ≡ false = ap (λ l. is_in l b) (sym (held_is core known)) ∙ outside in
        let same : new.held ≡ core.held ++ b ∷ [] = held_is new known_then ∙ ap bodies_in (history_follows core new (took 0 b claims) came.follows came.told)
        ∙ bodies_new h.base h.told 0 b claims out ∙ ap (λ l. l ++ b ∷ []) (sym (held_is core known)) in
        (λ i. slice_get (same i) (last i)) ∙ at_end core.held b

    module _ (room then_room : Room) (is : IsRoom (history_of core) (length (log_in (history_of core))) room) (event : is_receipt b.event ≡ false) (k : ℕ) (k_is : k ≡ signatures_in claims) where
      pub again_room : (n : ℕ) → slice_get core.held n ≡ Some b → (waits : Bool) → waits ≡ is_waiting (log_in (history_of core)) b
          → then_room.signatures.items ≡ set room.signatures.items n (get_or room.signatures.items n 0 + k) → then_room.reserved ≡ room.reserved + (if waits then 92 * k else 0)
          → IsRoom (history_of new) (length (log_in (history_of core))) then_room
      again_room n at waits waits_is signatures reserved =
          subst (λ h. IsRoom h (length (log_in (history_of core))) then_room) (sym (history_follows core new (took 0 b claims) came.follows came.told))
          (room_again (history_of core) room then_room is b claims event k k_is n (there_in n b at) waits waits_is signatures reserved)

      pub first_room : is_in core.held b ≡ false → then_room.signatures.items ≡ room.signatures.items ++ k ∷ [] → then_room.reserved ≡ room.reserved + (length b.bytes + 13 + 92 * k)
          → IsRoom (history_of new) (length (log_in (history_of core))) then_room
      first_room outside signatures reserved =
          subst (λ h. IsRoom h (length (log_in (history_of core))) then_room) (sym (history_follows core new (took 0 b claims) came.follows came.told))
          (room_first (history_of core) room then_room is b claims event k k_is (ap (λ l. is_in l b) (sym (held_is core known)) ∙ outside) (unlogged b outside) signatures reserved)
