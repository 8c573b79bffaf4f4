-- Receipts of accepted events (KERI: receipt message; CESR: receipt couples of non-transferable keys).
use Rattle.std.specs.Prelude.{◌≡◌, ℕ, List, [], ◌∷◌, ◌++◌, length, drop, map, filter, find, bytes_eq, Option, IfSome, Result, Ok, Err}
use Rattle.std.specs.List.{AllZip, cons_option}
use Rattle.cesr_codes.specs.declared.key.Key.{Key}
use Rattle.cesr_codes.specs.declared.sig.Sig.{Sig}
use Rattle.cesr_stream.specs.declared.couple.Couple.{Couple}
use Rattle.cesr_stream.specs.declared.group.Group.TheVariants.{Couples}
use Rattle.cesr_stream.specs.declared.item.Item.TheVariants.{Body as BodyItem, Group as GroupItem}
use Rattle.cesr_stream.specs.Written.{item_text}
use Rattle.event_body.specs.declared.event_body.event.Event.{Event}
use Rattle.event_body.specs.declared.event_body.event.Event.TheVariants.{Rct}
use Rattle.event_body.specs.EventBody.Events.{prefix_of, said_of, sn_of}
use Rattle.event_body.specs.EventBody.Spelling.{text_of}
use Rattle.keri_outside.specs.Asked.{signing}
use Rattle.keri_outside.specs.declared.signing.Signing.{Signing}
use Rattle.lists.specs.KeriSpecs.Causes.{Rose}
use Rattle.journal.specs.declared.journal.body.Body.{Body}
use Rattle.validator_core.specs.ValidatorCore.Signatures.{is_witness_under}
use Rattle.witness_core.specs.declared.witness_receipts.receipt.Receipt.{Receipt}
use Rattle.witness_core.specs.declared.witness_receipts.receipt.SigningFault.{SigningFault}
use Rattle.witness_core.specs.declared.witness_receipts.receipt.SigningFault.TheVariants.{SignerFault, OutOfMemory}

-- the receipt of an event as an event of its own: it names the event's digest, identifier and number (KERI, `rct`)
abbrev pub receipt_event : Event → Event
receipt_event e = Rct (record { said = said_of e; prefix = prefix_of e; sn = sn_of e })

-- a group of couples, each a key that can't be rotated and its signature (CESR, `-C`)
abbrev pub couples_text : List Couple → List ℕ
couples_text couples = item_text (GroupItem (Couples couples))

-- RECEIPT: the body of the receipt, and behind it one couple
abbrev pub receipt_text : Event → Couple → List ℕ
receipt_text e couple = item_text (BodyItem (text_of (receipt_event e))) ++ couples_text (couple ∷ [])

-- A receipt of an event: it has the witness's key, and a signature, which where the signer tells is that of the key on the
-- event's bytes.
pub record IsReceiptOf (gives : Key → List ℕ → Option Sig) (key : Key) (b : Body) (r : Receipt) : Type 0 where
  pub event : r.event ≡ said_of b.event
  pub couple : Couple
  pub by_key : couple.key ≡ key
  pub signed : IfSome (gives key b.bytes) (λ told. couple.sig ≡ told)
  pub text : r.bytes.items ≡ receipt_text b.event couple

-- the event of a message with this body, where it is among the stored ones
abbrev pub again : List Body → List ℕ → List Body
again stored text = cons_option (find (λ b. bytes_eq b.bytes text) stored) []

-- the events whose own witnesses hold the key, each by the state under which it was accepted
abbrev pub listed : Key → List Body → List Body → List Body
listed key log bodies = filter (λ b. is_witness_under log b key) bodies

-- DUE: once a message with this body is taken, and a stored list has grown into a log, receipts are due for each event stored
-- since whose own witnesses hold the key, in order; then for the message's own event, where it was stored before and they hold it
-- (own)
abbrev pub due : Key → List Body → List Body → List ℕ → List Body
due key stored log text = listed key log (drop (length stored) log ++ again stored text)

-- what a signer is asked for receipts of these events
abbrev pub signings_of : Key → List Body → List Signing
signings_of key bodies = map (λ b. signing key b.bytes) bodies

-- one receipt for each of these events, in order
abbrev pub AreReceiptsOf : (Key → List ℕ → Option Sig) → Key → List Body → List Receipt → Type 0
AreReceiptsOf gives key bodies receipts = AllZip (IsReceiptOf gives key) bodies receipts

-- the signer's count of faults rose where the signer failed, and else stays
abbrev pub CountsFaults : {T : Type 0} → ℕ → ℕ → Result T SigningFault → Type 0
CountsFaults before now (Ok value) = now ≡ before
CountsFaults before now (Err SignerFault) = Rose before now
CountsFaults before now (Err OutOfMemory) = now ≡ before
