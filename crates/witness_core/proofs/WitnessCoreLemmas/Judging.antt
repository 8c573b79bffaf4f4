-- Messages that are judged, and what turns them away.
use Rattle.std.proofs.Common.{◌≡◌, ℕ, true, false, List, length, slice_get, Some, None, Result, Ok, Err, IfOk, OnOk, sym, ◌∙◌, ap, subst, inl, inr}
use Rattle.std.specs.Prelude.{IfNone, IfSome}
use Rattle.std.proofs.lemmas.Bool.{or_right}
use Rattle.cesr_stream.specs.declared.message.Message.{Message}
use Rattle.validator_core.specs.Tables.View.{body_of}
use Rattle.event_body.specs.EventBody.Events.{is_receipt}
use Rattle.event_body.specs.declared.event_body.body_fault.BodyFault.{BodyFault}
use Rattle.event_body.specs.declared.event_body.event.Event.{Event}
use Rattle.event_body.proofs.EventBodyLemmas.Whole.{no_fault, one_event}
use Rattle.journal.specs.declared.journal.body.Body.{Body}
use Rattle.journal.specs.declared.journal.claim.Claim.{Claim}
use Rattle.journal.specs.declared.journal.reply.Reason.{Reason}
use Rattle.journal.specs.Journal.Feeds.{GivesBody}
use Rattle.journal.specs.Journal.History.{took}
use Rattle.journal.specs.Journal.Logs.{is_in}
use Rattle.journal.specs.Journal.Replies.{claims_of, is_full, refusal}
use Rattle.keri_outside.specs.declared.limits.Limits.{Limits}
use Rattle.validator_core.specs.ValidatorCore.Messages.{JudgesMessage}
use Rattle.validator_core.specs.ValidatorCore.View.{CoreView, base_of, told_of}
use Rattle.witness_core.specs.WitnessCore.Faults.{FullBy}
use Rattle.witness_core.specs.WitnessStore.Histories.{history_of, log_in}
use Rattle.witness_core.specs.WitnessStore.Room.{HasRoom, IsComing, IsKnown, IsRoom, lacks_room, signatures_in}
use Rattle.witness_core.specs.declared.witness_store.room.Coming.{Coming}
use Rattle.witness_core.specs.WitnessCore.Telling.{Came, Fails, FailsMessage, IsReady, IsTurnedAway, full, has_no_room, told, untold}
use Rattle.witness_core.specs.declared.witness_store.room.Room.{Room}
use Rattle.witness_core.specs.declared.witness_store.witness_fault.WitnessFault.{WitnessFault}
use Rattle.witness_core.specs.declared.witness_store.witness_fault.WitnessFault.TheVariants.{DiskFault, SignerFault, VerifierFault, LimitReached, Broken, OutOfMemory}
use Rattle.witness_core.proofs.WitnessCoreLemmas.Entering.{there_in, unlogged}
use Rattle.witness_core.proofs.WitnessStoreLemmas.Entries.{history_follows}
use Rattle.witness_core.proofs.WitnessCoreLemmas.Making.{IsThere, has_room_took}
use Rattle.witness_core.proofs.WitnessStoreLemmas.RoomSteps.{held_is}

-- ONE: a message is judged in one way
pub one_judged : (m : Message) (e f : Event) → JudgesMessage m (Ok e) → JudgesMessage m (Ok f) → e ≡ f
one_judged m e f p q = one_event e f m.body p.0.1 q.0.1

pub never_both : (m : Message) (e : Event) (reason : Reason) → JudgesMessage m (Ok e) → JudgesMessage m (Err reason) → ⊥
never_both m e reason p q = by q.0 q.1 q.2
  where
    by : (gives : Result Event BodyFault) → GivesBody m.body gives → refusal m gives ≡ Some reason → ⊥
    by (Ok f) given is =
        let same : e ≡ f = one_event e f m.body p.0.1 given.1 in
        let no : None ≡ Some reason = sym p.1 ∙ ap (λ x. refusal m (Ok x)) same ∙ is in cc
    by (Err fault) given is = no_fault e m.body fault p.0.1 p.0.0 given

module _ (limits : Limits) (core : CoreView) (list : List (List ℕ)) (m : Message) where
  -- one that is refused isn't turned away, nor an event for which there is room
  pub refused_stays : (reason : Reason) → JudgesMessage m (Err reason) → IsTurnedAway limits core list m → ⊥
  refused_stays reason judged turned = never_both m turned.event reason turned.judged judged

  module _ (event : Event) (judged : JudgesMessage m (Ok event)) where
    pub room_stays : has_no_room limits core list (body_of m.body event) (claims_of m) ≡ false → IsTurnedAway limits core list m → ⊥
    room_stays room turned =
        let no : true ≡ false = sym turned.full ∙ ap (λ e. has_no_room limits core list (body_of m.body e) (claims_of m)) (one_judged m turned.event event turned.judged judged) ∙ room in cc

    module _ (no_receipt : is_receipt event ≡ false) (room : Room) (new : CoreView) (room_then : Room) where
      abbrev Turned : WitnessFault → Type 0
      Turned fault = Fails (has_no_room limits core list (body_of m.body event) (claims_of m) ≡ true) (body_of m.body event) (claims_of m) core room new room_then fault

      -- where it fails for want of room it is turned away
      pub fails_full : (fault : WitnessFault) → Turned fault → FullBy (IsTurnedAway limits core list m) fault
      fails_full LimitReached (full turned none same) = record { event = event; judged = judged; no_receipt = no_receipt; full = turned }
      fails_full OutOfMemory f = tt
      fails_full DiskFault f = elim f [ ]
      fails_full SignerFault f = elim f [ ]
      fails_full VerifierFault f = elim f [ ]
      fails_full Broken f = elim f [ ]

-- what fails for one reason fails for a wider one
pub fails_wider : (P Q : Type 0) → (P → Q) → (b : Body) (claims : List Claim) (old : CoreView) (room : Room) (new : CoreView) (room_then : Room) (fault : WitnessFault) → Fails P b claims old room new room_then fault
    → Fails Q b claims old room new room_then fault
fails_wider P Q gives b claims old room new room_then LimitReached (full p none same) = full (gives p) none same
fails_wider P Q gives b claims old room new room_then OutOfMemory (untold none) = untold none
fails_wider P Q gives b claims old room new room_then OutOfMemory (told came) = told came
fails_wider P Q gives b claims old room new room_then DiskFault f = elim f [ ]
fails_wider P Q gives b claims old room new room_then SignerFault f = elim f [ ]
fails_wider P Q gives b claims old room new room_then VerifierFault f = elim f [ ]
fails_wider P Q gives b claims old room new room_then Broken f = elim f [ ]

pub fails_message : (m : Message) (P : Type 0) (event : Event) → is_receipt event ≡ false → JudgesMessage m (Ok event) → (old : CoreView) (room : Room) (new : CoreView) (room_then : Room) (fault : WitnessFault)
    → Fails P (body_of m.body event) (claims_of m) old room new room_then fault → FailsMessage m old room new room_then fault
fails_message m P event no_receipt judged old room new room_then fault f =
    inl (event, no_receipt, judged, fails_wider P (Unit {0}) (λ p. tt) (body_of m.body event) (claims_of m) old room new room_then fault f)

module _ (limits : Limits) (core : CoreView) (list : List (List ℕ)) (b : Body) (claims : List Claim) where
  -- the core has no room, or the shelf hasn't
  pub full_lacks : lacks_room limits (history_of core) list b claims ≡ true → has_no_room limits core list b claims ≡ true
  full_lacks lacks = or_right (is_full core.limits (base_of core) (told_of core) b claims) _ lacks

  module _ (event : is_receipt b.event ≡ false) (shelf_limits : Limits) (same : shelf_limits ≡ limits) (room : Room) (all : length list ≡ length (log_in (history_of core))) (has : HasRoom shelf_limits (history_of core) list room)
      (lacks : lacks_room limits (history_of core) list b claims ≡ false) (there : IsThere (history_of core) b) where
    -- with the body the list has room
    pub made : (new : CoreView) (room_then : Room) → Came b claims core new → IsRoom (history_of new) (length (log_in (history_of core))) room_then → HasRoom limits (history_of new) list room_then
    made new room_then came is =
        let told_now = history_follows core new (took 0 b claims) came.follows came.told in
        subst (λ h. HasRoom limits h list room_then) (sym told_now)
        (has_room_took limits (history_of core) list b claims room room_then event all (subst (λ l. HasRoom l (history_of core) list room) same has) lacks there
        (subst (λ h. IsRoom h (length (log_in (history_of core))) room_then) told_now is))

-- COMING: the number, the length and the signatures of a message that is to be taken
pub coming_is : (core : CoreView) (event : Event) (bytes text : List ℕ) → bytes ≡ text → (claims : List Claim) (coming : Coming) → IfSome coming.number (λ n. slice_get core.held n ≡ Some (body_of bytes event))
    → IfNone coming.number (is_in core.held (body_of bytes event) ≡ false) → coming.bytes ≡ length text → coming.signatures ≡ signatures_in claims → IsComing core (body_of text event) claims coming
coming_is core event bytes text same claims coming held new long signatures = record {
  held = subst (λ t. IfSome coming.number (λ n. slice_get core.held n ≡ Some (body_of t event))) same held;
  new = subst (λ t. IfNone coming.number (is_in core.held (body_of t event) ≡ false)) same new;
  bytes = long;
  signatures = signatures;
}

-- what an event is that is held, and one that isn't
pub is_there : (core : CoreView) → IsKnown core → (n : ℕ) (b : Body) → slice_get core.held n ≡ Some b → IsThere (history_of core) b
is_there core known n b at = inl (n, there_in core known n b at)

pub is_new : (core : CoreView) → IsKnown core → (b : Body) → is_in core.held b ≡ false → IsThere (history_of core) b
is_new core known b outside = inr (ap (λ l. is_in l b) (sym (held_is core known)) ∙ outside, unlogged core known b outside)

-- TELLING: a message's event that is told where the shelf has room
module _ (limits : Limits) (core : CoreView) (list : List (List ℕ)) (m : Message) (event : Event) (claims : List Claim) (is : claims ≡ claims_of m)
    (lacks : lacks_room limits (history_of core) list (body_of m.body event) (claims_of m) ≡ false) (new : CoreView) (room room_then : Room) (r : Result ℕ WitnessFault) where
  abbrev b : Body
  b = body_of m.body event

  module _ (judged : JudgesMessage m (Ok event)) (no_receipt : is_receipt event ≡ false) (shelf_limits : Limits) (same : shelf_limits ≡ limits) (all : length list ≡ length (log_in (history_of core)))
      (has : HasRoom shelf_limits (history_of core) list room) (there : IsThere (history_of core) b) where
    made_ready : (q : Result ℕ WitnessFault) → OnOk q (IsKnown new) → IfOk q (λ n. slice_get new.held n ≡ Some b) → OnOk q (Came b (claims_of m) core new)
        → OnOk q (IsRoom (history_of new) (length (log_in (history_of core))) room_then) → IfOk q (λ n. IsReady limits core list m n new room_then)
    made_ready (Ok n) known numbered came is_room = record {
      event = event;
      judged = judged;
      no_receipt = no_receipt;
      came = came;
      known = known;
      numbered = numbered;
      fits = made limits core list b (claims_of m) no_receipt shelf_limits same room all has lacks there new room_then came is_room;
    }
    made_ready (Err e) known numbered came is_room = tt

    pub tells_ready : OnOk r (IsKnown new) → IfOk r (λ n. slice_get new.held n ≡ Some b) → OnOk r (Came b claims core new) → OnOk r (IsRoom (history_of new) (length (log_in (history_of core))) room_then)
        → IfOk r (λ n. IsReady limits core list m n new room_then)
    tells_ready known numbered came is_room = made_ready r known numbered (subst (λ cs. OnOk r (Came b cs core new)) is came) is_room
