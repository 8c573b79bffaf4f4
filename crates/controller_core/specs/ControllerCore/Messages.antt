-- The messages that are made of plans.
use Rattle.std.specs.Prelude.{◌≡◌, ◌≤◌, ℕ, false, true, List, [], ◌∷◌, length, slice_get, Option, IfSome, None}
use Rattle.std.specs.List.{AllZip}
use Rattle.cesr_codes.specs.declared.indexed_sig.IndexedSig.{IndexedSig}
use Rattle.cesr_codes.specs.declared.key.Key.{Key}
use Rattle.cesr_codes.specs.declared.sig.Sig.{Sig}
use Rattle.cesr_stream.specs.declared.group.Group.TheVariants.{Controller}
use Rattle.cesr_stream.specs.declared.message.Message.{Message}
use Rattle.event_body.specs.declared.event_body.event.Event.{Event}
use Rattle.event_body.specs.EventBody.Judging.{SpellsEvent}
use Rattle.event_body.specs.EventBody.Spelling.{text_of}
use Rattle.key_state.specs.Exposure.{own_rules}
use Rattle.key_state.specs.KeyStates.{misfit}
use Rattle.key_state.specs.States.{State}
use Rattle.controller_core.specs.declared.controller_core.slot.Slot.{Slot}
use Rattle.controller_core.specs.ControllerCore.Slots.{are_enough, is_big}

-- the text of an event
unfoldable pub event_text : Event → List ℕ
event_text e = text_of e

-- the event's text is a body, which spells the event
pub record IsWhole (e : Event) : Type 0 where
  pub spelled : SpellsEvent e (event_text e)
  pub short : length (event_text e) ≤ 65535

-- the event follows the state, where there is one
abbrev pub Follows : Option State → Event → Type 0
Follows s e = IfSome s (λ state. misfit state e ≡ None)

-- the event can be signed: it is one by all rules, and the slots are enough
pub record IsSignable (s : Option State) (e : Event) (slots : List Slot) : Type 0 where
  pub whole : IsWhole e
  pub follows : Follows s e
  pub enough : are_enough s e slots ≡ true

-- a signature of these, where the signer tells
abbrev pub IsSigOf : (Key → List ℕ → Option Sig) → Key → List ℕ → Sig → Type 0
IsSigOf gives key body sig = IfSome (gives key body) (λ told. sig ≡ told)

-- the signature in a slot, on a body, of the signing key at the slot's index
pub record IsInSlot (gives : Key → List ℕ → Option Sig) (keys : List Key) (body : List ℕ) (slot : Slot) (sig : IndexedSig) : Type 0 where
  pub index : sig.index ≡ slot.index
  pub ondex : sig.ondex ≡ slot.ondex
  pub big : sig.big ≡ is_big slot
  pub signed : IfSome (slice_get keys slot.index) (λ key. IsSigOf gives key body sig.sig)

-- the message of a body with one group, which has a signature in each slot, in the slots' order
pub record HasSigs (gives : Key → List ℕ → Option Sig) (keys : List Key) (text : List ℕ) (slots : List Slot) (message : Message) : Type 0 where
  pub sigs : List IndexedSig
  pub in_slots : AllZip (IsInSlot gives keys text) slots sigs
  pub place : message.place ≡ 0
  pub body : message.body ≡ text
  pub group : message.groups ≡ Controller sigs ∷ []
  pub excess : message.excess ≡ false

-- the event behind a state can be signed in these slots, and this is its message
pub record IsMessageOf (gives : Key → List ℕ → Option Sig) (s : Option State) (e : Event) (slots : List Slot) (message : Message) : Type 0 where
  pub signable : IsSignable s e slots
  pub has : HasSigs gives (own_rules s e).keys (event_text e) slots message
