-- What becomes of a message (own; KERI: events that are accepted, escrowed or duplicitous).
use Rattle.std.specs.Prelude.{◌≡◌, ℕ, ◌==◌, ◌&&◌, Bool, true, false, nat_le, List, [], ◌∷◌, find, Option, Some, None, if◌then◌else◌, Result, Ok, Err}
use Rattle.std.specs.Option.{option_map}
use Rattle.cesr_codes.specs.declared.digest.Digest.{Digest}
use Rattle.cesr_codes.specs.declared.key.Key.{Key}
use Rattle.cesr_codes.specs.declared.prefix.Prefix.{Prefix}
use Rattle.cesr_stream.specs.declared.message.Message.{Message}
use Rattle.event_body.specs.declared.event_body.body_fault.BodyFault.{BodyFault}
use Rattle.event_body.specs.declared.event_body.event.Event.{Event}
use Rattle.event_body.specs.EventBody.Events.{is_receipt, prefix_of, said_of, sn_of}
use Rattle.journal.specs.declared.journal.body.Body.{Body}
use Rattle.journal.specs.declared.journal.why.Why.{Why}
use Rattle.journal.specs.declared.journal.why.Why.TheVariants.{Predecessor, Signatures, Next, Receipts, Seal, Never}
use Rattle.journal.specs.Journal.Feeds.{GivesBody}
use Rattle.journal.specs.Journal.Logs.{is_in, live, takes}
use Rattle.journal.specs.Journal.Replies.{refusal}
use Rattle.journal.specs.Journal.Waiting.{why_waits}
use Rattle.key_state.specs.Same.{same_prefix}
use Rattle.validator_core.specs.ValidatorCore.Signatures.{is_witness_under}
use Rattle.validator_core.specs.ValidatorCore.View.{CoreView, accepted_by, state_of, told_of}
use Rattle.witness_core.specs.declared.witness_receipts.fate.Fate.{Fate}
use Rattle.witness_core.specs.declared.witness_receipts.fate.Fate.TheVariants.{Stored, Waits, Seen, NotAnEvent, Refused}

-- the first of these that there is
abbrev pub first_some : {X : Type 0} → List (Option X) → Option X
first_some [] = None
first_some (None ∷ rest) = first_some rest
first_some (Some x ∷ rest) = Some x

-- the value, where it is so
abbrev pub when : {X : Type 0} → Bool → X → Option X
when so x = if so then Some x else None

-- signatures are wanted, or those that open what was committed to before
abbrev pub is_signing : Why → Bool
is_signing Signatures = true
is_signing Next = true
is_signing Predecessor = false
is_signing Receipts = false
is_signing Seal = false
is_signing Never = false

-- the reason, where it is that signatures are wanted
abbrev pub signing_reason : Option Why → Option Why
signing_reason None = None
signing_reason (Some why) = when (is_signing why) why

-- the digest of the live event of an identifier at a number (KERI: superseded interactions left out)
abbrev pub live_there : List Body → Prefix → ℕ → Option Digest
live_there log prefix sn = option_map (λ c. said_of c.event) (find (λ c. sn_of c.event == sn) (live log prefix))

-- The fate of an event that isn't stored, by why it waits. The first that applies: it wants signatures, where the state takes it,
-- or where it is an inception and there is none; another event is live at its place; it waits.
abbrev pub fate_by : CoreView → Event → Option Why → Option Fate
fate_by core e why = first_some (
    (if takes (state_of core (prefix_of e)) e then option_map Waits (signing_reason why) else None)
    ∷ option_map Seen (live_there (accepted_by core) (prefix_of e) (sn_of e))
    ∷ option_map Waits why
    ∷ [])

-- the fate of one that isn't stored
abbrev pub waiting_fate : CoreView → Body → Option Fate
waiting_fate core b = fate_by core b.event (why_waits core.mode (told_of core) (accepted_by core) b)

-- The fate of a body's event. The first that applies: it is a receipt; it is stored, and its own witnesses hold the key by the
-- state under which it was accepted, or they don't; it waits.
abbrev pub event_fate : Key → CoreView → Body → Option Fate
event_fate key core b = first_some (
    when (is_receipt b.event) NotAnEvent
    ∷ when (is_in (accepted_by core) b) (Stored (is_witness_under (accepted_by core) b key))
    ∷ waiting_fate core b
    ∷ [])

-- FATE: that of a message, by what reading its body gave and by the core once it is taken. The first that applies: it is refused,
-- or what its event meets.
abbrev pub fate_of : Key → CoreView → Message → Result Event BodyFault → Option Fate
fate_of key core m (Err fault) = option_map Refused (refusal m (Err fault))
fate_of key core m (Ok e) = first_some (
    option_map Refused (refusal m (Ok e))
    ∷ event_fate key core (record { bytes = m.body; event = e })
    ∷ [])

-- it is the message's fate
abbrev pub IsFate : Key → CoreView → Message → Fate → Type 0
IsFate key core m fate = (gives : Result Event BodyFault) × GivesBody m.body gives × (fate_of key core m gives ≡ Some fate)

-- the event is in the log of the identifier, and not behind the number
abbrev pub is_within : Prefix → ℕ → Event → Bool
is_within prefix sn e = same_prefix (prefix_of e) prefix && nat_le (sn_of e) sn

-- the event's digest, where it has the number
abbrev pub said_at : ℕ → Event → Option Digest
said_at sn e = when (sn_of e == sn) (said_of e)
