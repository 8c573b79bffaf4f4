-- What a message and the verdicts on its signatures tell the core (own).
use Rattle.std.specs.Prelude.{◌≡◌, ◌⊎◌, ℕ, ◌+◌, ◌≤◌, ◌||◌, Bool, true, false, List, [], ◌∷◌, ◌++◌, length, flat_map, slice_get, All, Option, Some, Ok, Err}
use Rattle.cesr_codes.specs.declared.key.Key.{Key}
use Rattle.cesr_codes.specs.declared.sig.Sig.{Sig}
use Rattle.cesr_stream.specs.declared.message.Message.{Message}
use Rattle.validator_core.specs.Tables.View.{body_of}
use Rattle.event_body.specs.EventBody.Events.{is_receipt}
use Rattle.event_body.specs.declared.event_body.event.Event.{Event}
use Rattle.journal.specs.declared.journal.body.Body.{Body}
use Rattle.journal.specs.declared.journal.claim.Claim.{Claim}
use Rattle.journal.specs.Journal.History.{Told, took}
use Rattle.journal.specs.Journal.Replies.{all_claims, claims_of, is_full}
use Rattle.keri_outside.specs.declared.limits.Limits.{Limits}
use Rattle.keri_outside.specs.declared.inquiry.Inquiry.{Inquiry}
use Rattle.validator_core.specs.ValidatorCore.Messages.{JudgesMessage}
use Rattle.validator_core.specs.ValidatorCore.Verdicts.{AsksOpen, IsVerdict}
use Rattle.validator_core.specs.ValidatorCore.View.{CoreView, Follows, base_of, told_of, open_of}
use Rattle.witness_core.specs.WitnessStore.Histories.{history_of}
use Rattle.witness_core.specs.WitnessStore.Room.{HasRoom, IsKnown, lacks_room}
use Rattle.witness_core.specs.declared.witness_store.room.Room.{Room}
use Rattle.witness_core.specs.declared.witness_core.taken.Taken.{Taken}
use Rattle.witness_core.specs.declared.witness_core.taken.Taken.TheVariants.{Refused, NotAnEvent, Event as EventTaken}
use Rattle.witness_core.specs.declared.witness_store.witness_fault.WitnessFault.{WitnessFault}
use Rattle.witness_core.specs.declared.witness_store.witness_fault.WitnessFault.TheVariants.{DiskFault, SignerFault, VerifierFault, LimitReached, Broken, OutOfMemory}

-- the core has no room for it, or the shelf
abbrev pub has_no_room : Limits → CoreView → List (List ℕ) → Body → List Claim → Bool
has_no_room limits core list b claims =
    is_full core.limits (base_of core) (told_of core) b claims || lacks_room limits (history_of core) list b claims

-- TURNED AWAY: the message is of an event, isn't refused, and the core or the shelf has no room for it
pub record IsTurnedAway (limits : Limits) (core : CoreView) (list : List (List ℕ)) (m : Message) : Type 0 where
  pub event : Event
  pub judged : JudgesMessage m (Ok event)
  pub no_receipt : is_receipt event ≡ false
  pub full : has_no_room limits core list (body_of m.body event) (claims_of m) ≡ true

-- nothing more was told
pub record IsUntold (old new : CoreView) : Type 0 where
  pub told : told_of new ≡ told_of old
  pub follows : Follows old new

-- a body came with claims, of which there aren't too many
pub record Came (b : Body) (claims : List Claim) (old new : CoreView) : Type 0 where
  pub told : told_of new ≡ told_of old ++ took 0 b claims ∷ []
  pub follows : Follows old new
  pub few : length (flat_map all_claims (told_of old)) + length claims ≤ old.limits.signatures

-- What came behind what was told: for each verdict of it the verifier was asked, in order, and for nothing else, but maybe for the
-- first question that is open.
abbrev pub AsksVerdicts : Option (List Inquiry) → Option (List Inquiry) → CoreView → CoreView → Type 0
AsksVerdicts before now old new = (more : List Told) × (told_of new ≡ told_of old ++ more) × AsksOpen before now more (open_of new)

-- verdicts were noted, and nothing else
pub record Hears (says : Key → List ℕ → Sig → Option Bool) (old new : CoreView) : Type 0 where
  pub verdicts : List Told
  pub behind : told_of new ≡ told_of old ++ verdicts
  pub each : All (IsVerdict says) verdicts
  pub follows : Follows old new

-- the message's event came, with the message's signatures and receipts as claims, and then verdicts
pub record TellsEvent (says : Key → List ℕ → Sig → Option Bool) (old : CoreView) (m : Message) (new : CoreView) : Type 0 where
  pub event : Event
  pub judged : JudgesMessage m (Ok event)
  pub no_receipt : is_receipt event ≡ false
  pub verdicts : List Told
  pub behind : told_of new ≡ (told_of old ++ took 0 (body_of m.body event) (claims_of m) ∷ []) ++ verdicts
  pub each : All (IsVerdict says) verdicts
  pub follows : Follows old new

-- the message is a receipt
abbrev pub IsOfReceipt : Message → Type 0
IsOfReceipt m = (event : Event) × JudgesMessage m (Ok event) × (is_receipt event ≡ true)

-- the message's event came, its body has the number, and the list has room for it
pub record IsReady (limits : Limits) (old : CoreView) (list : List (List ℕ)) (m : Message) (number : ℕ) (new : CoreView) (room : Room) : Type 0 where
  pub event : Event
  pub judged : JudgesMessage m (Ok event)
  pub no_receipt : is_receipt event ≡ false
  pub came : Came (body_of m.body event) (claims_of m) old new
  pub known : IsKnown new
  pub numbered : slice_get new.held number ≡ Some (body_of m.body event)
  pub fits : HasRoom limits (history_of new) list room

-- a message is taken in, or refused
abbrev pub TakesIn : Limits → CoreView → Room → List (List ℕ) → Message → Taken → CoreView → Room → Type 0
TakesIn limits old room list m (Refused reason) new room_then = JudgesMessage m (Err reason) × (new ≡ old) × (room_then ≡ room)
TakesIn limits old room list m NotAnEvent new room_then = IsOfReceipt m × (new ≡ old) × (room_then ≡ room)
TakesIn limits old room list m (EventTaken number) new room_then = IsReady limits old list m number new room_then

-- a body that came isn't taken: there is no room, or no memory, and then it may have been told
pub data Fails (no_room : Type 0) (b : Body) (claims : List Claim) (old : CoreView) (room : Room) (new : CoreView) (room_then : Room) : WitnessFault → Type 0 where
  full : no_room → IsUntold old new → room_then ≡ room → Fails no_room b claims old room new room_then LimitReached
  untold : IsUntold old new → Fails no_room b claims old room new room_then OutOfMemory
  told : Came b claims old new → Fails no_room b claims old room new room_then OutOfMemory

-- a message's event isn't taken, or there is no memory to judge the message
abbrev pub FailsMessage : Message → CoreView → Room → CoreView → Room → WitnessFault → Type 0
FailsMessage m old room new room_then fault =
    ((event : Event) × (is_receipt event ≡ false) × JudgesMessage m (Ok event) × Fails (Unit {0}) (body_of m.body event) (claims_of m) old room new room_then fault)
    ⊎ ((fault ≡ OutOfMemory) × IsUntold old new)

-- where the message was taken, or refused
abbrev pub TellsTaken : (Key → List ℕ → Sig → Option Bool) → CoreView → Message → Taken → CoreView → Type 0
TellsTaken says old m (Refused reason) new = JudgesMessage m (Err reason) × IsUntold old new
TellsTaken says old m NotAnEvent new = IsOfReceipt m × IsUntold old new
TellsTaken says old m (EventTaken number) new = TellsEvent says old m new × (open_of new ≡ [])

-- where there was a fault; without memory maybe nothing was told
abbrev pub TellsFault : (Key → List ℕ → Sig → Option Bool) → CoreView → Message → WitnessFault → CoreView → Type 0
TellsFault says old m LimitReached new = IsUntold old new
TellsFault says old m Broken new = IsUntold old new
TellsFault says old m OutOfMemory new = IsUntold old new ⊎ TellsEvent says old m new
TellsFault says old m DiskFault new = TellsEvent says old m new
TellsFault says old m VerifierFault new = TellsEvent says old m new
TellsFault says old m SignerFault new = TellsEvent says old m new × (open_of new ≡ [])

-- the body of a message's event has the number; where the message was refused, or is a receipt, nothing was stored
abbrev pub IsTakenAs : CoreView → List (List ℕ) → List (List ℕ) → Message → Taken → Type 0
IsTakenAs core old new m (Refused reason) = new ≡ old
IsTakenAs core old new m NotAnEvent = new ≡ old
IsTakenAs core old new m (EventTaken number) = (event : Event) → JudgesMessage m (Ok event) → slice_get core.held number ≡ Some (body_of m.body event)
