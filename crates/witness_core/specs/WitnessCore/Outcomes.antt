-- What a call gives: the fate of the message, and the receipts that are due (own).
use Rattle.std.specs.Prelude.{◌≡◌, ℕ, Bool, List, [], Contains, Option, Some, Result, Ok, Err, take}
use Rattle.cesr_codes.specs.declared.key.Key.{Key}
use Rattle.cesr_codes.specs.declared.sig.Sig.{Sig}
use Rattle.cesr_stream.specs.declared.message.Message.{Message}
use Rattle.event_body.specs.EventBody.Events.{said_of}
use Rattle.keri_outside.specs.declared.signing.Signing.{Signing}
use Rattle.lists.specs.KeriSpecs.Shown.{after}
use Rattle.journal.specs.declared.journal.body.Body.{Body}
use Rattle.validator_core.specs.ValidatorCore.Messages.{JudgesMessage}
use Rattle.validator_core.specs.ValidatorCore.View.{CoreView, accepted_by, open_of}
use Rattle.witness_core.specs.WitnessReceipts.Fates.{event_fate}
use Rattle.witness_core.specs.WitnessReceipts.Receipts.{AreReceiptsOf, due, signings_of}
use Rattle.witness_core.specs.WitnessCore.Telling.{IsOfReceipt, IsUntold, TellsEvent}
use Rattle.witness_core.specs.declared.witness_receipts.fate.Fate.{Fate}
use Rattle.witness_core.specs.declared.witness_receipts.fate.Fate.TheVariants.{Stored, Waits, Seen, NotAnEvent, Refused}
use Rattle.witness_core.specs.declared.witness_core.outcome.Outcome.{Outcome}
use Rattle.witness_core.specs.declared.witness_receipts.receipt.Receipt.{Receipt}
use Rattle.witness_core.specs.declared.witness_store.witness_fault.WitnessFault.{WitnessFault}
use Rattle.witness_core.specs.declared.witness_store.witness_fault.WitnessFault.TheVariants.{DiskFault, SignerFault, VerifierFault, LimitReached, Broken, OutOfMemory}

-- what the core was told, by the message's fate
abbrev pub TellsFate : (Key → List ℕ → Sig → Option Bool) → CoreView → Message → Fate → CoreView → Type 0
TellsFate says old m (Refused reason) new = JudgesMessage m (Err reason) × IsUntold old new
TellsFate says old m NotAnEvent new = IsOfReceipt m × IsUntold old new
TellsFate says old m (Stored listed) new = TellsEvent says old m new × (open_of new ≡ [])
TellsFate says old m (Waits why) new = TellsEvent says old m new × (open_of new ≡ [])
TellsFate says old m (Seen said) new = TellsEvent says old m new × (open_of new ≡ [])

-- where the message was refused, or is a receipt, nothing was stored
abbrev pub KeepsList : Fate → List (List ℕ) → List (List ℕ) → Type 0
KeepsList (Refused reason) old new = new ≡ old
KeepsList NotAnEvent old new = new ≡ old
KeepsList (Stored listed) old new = Unit {0}
KeepsList (Waits why) old new = Unit {0}
KeepsList (Seen said) old new = Unit {0}

-- DUE: the events of which receipts are due once a message is taken, in order. Nothing is done for one that was refused, nor for
-- a receipt, so then none are (own).
abbrev pub due_by : Key → CoreView → CoreView → Message → Fate → List Body
due_by key old new m (Refused reason) = []
due_by key old new m NotAnEvent = []
due_by key old new m (Stored listed) = due key (accepted_by old) (accepted_by new) m.body
due_by key old new m (Waits why) = due key (accepted_by old) (accepted_by new) m.body
due_by key old new m (Seen said) = due key (accepted_by old) (accepted_by new) m.body

-- RECEIPTS: those that are due once a message is taken, and no others
abbrev pub AreReceipts : Key → (Key → List ℕ → Option Sig) → CoreView → CoreView → Message → Outcome → Type 0
AreReceipts key gives old new m o = AreReceiptsOf gives key (due_by key old new m o.fate) o.receipts.items

-- the receipt is of an event that is stored
abbrev pub IsOfStored : CoreView → Receipt → Type 0
IsOfStored core r = (b : Body) × Contains (accepted_by core) b × (r.event ≡ said_of b.event)

-- the signer was asked for some of the receipts that are due of a message's event and of those that it made accepted, from the
-- first on
abbrev pub AsksSome : Key → CoreView → CoreView → Message → Option (List Signing) → Option (List Signing) → Type 0
AsksSome key old new m before now = (n : ℕ) × (now ≡ after before (take n (signings_of key (due key (accepted_by old) (accepted_by new) m.body))))

-- ASKED: the signer was asked for just the receipts that are due; up to a fault of its own, or up to want of memory; for none
-- where there was another fault
abbrev pub AsksSigner : Key → CoreView → CoreView → Message → Option (List Signing) → Option (List Signing) → Result Outcome WitnessFault → Type 0
AsksSigner key old new m before now (Ok o) = now ≡ after before (signings_of key (due_by key old new m o.fate))
AsksSigner key old new m before now (Err SignerFault) = AsksSome key old new m before now
AsksSigner key old new m before now (Err OutOfMemory) = AsksSome key old new m before now
AsksSigner key old new m before now (Err DiskFault) = now ≡ before
AsksSigner key old new m before now (Err VerifierFault) = now ≡ before
AsksSigner key old new m before now (Err LimitReached) = now ≡ before
AsksSigner key old new m before now (Err Broken) = now ≡ before

-- the outcome of a message whose event is that of a body, where the first so many of the accepted events were stored before
pub record IsOutcomeOf (gives : Key → List ℕ → Option Sig) (key : Key) (core : CoreView) (front : ℕ) (b : Body) (o : Outcome) : Type 0 where
  pub fate : event_fate key core b ≡ Some o.fate
  pub receipts : AreReceiptsOf gives key (due key (take front (accepted_by core)) (accepted_by core) b.bytes) o.receipts.items
