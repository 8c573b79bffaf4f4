-- The messages that a witness took at a link, and what became of them.
use Rattle.std.specs.Prelude.{◌≡◌, ℕ, List, [], ◌∷◌, ◌++◌, flat_map, map}
use Rattle.cesr_codes.specs.declared.digest.Digest.{Digest}
use Rattle.cesr_codes.specs.declared.key.Key.{Key}
use Rattle.cesr_stream.specs.declared.message.Message.{Message}
use Rattle.journal.specs.declared.journal.refusal.Refusal.{Refusal}
use Rattle.keri_outside.specs.declared.signing.Signing.{Signing}
use Rattle.validator_core.specs.ValidatorCore.View.{CoreView}
use Rattle.witness_core.specs.WitnessReceipts.Fates.{IsFate}
use Rattle.witness_core.specs.WitnessStore.Payloads.{AreListed}
use Rattle.witness_core.specs.WitnessCore.Outcomes.{KeepsList, TellsFate, due_by}
use Rattle.witness_core.specs.WitnessReceipts.Receipts.{AreReceiptsOf, signings_of}
use Rattle.witness_core.specs.WitnessCore.Telling.{IsTurnedAway}
use Rattle.witness_core.specs.declared.witness_receipts.fate.Fate.{Fate}
use Rattle.witness_core.specs.declared.witness_receipts.fate.Fate.TheVariants.{Stored, Waits, Seen, NotAnEvent, Refused}
use Rattle.witness_core.specs.declared.witness_receipts.receipt.Receipt.{Receipt}
use Rattle.witness_core.specs.WitnessLink.Links.{Standing, Terms}

-- a message that was taken, what became of it, the receipts that were due then, and how the witness stands behind it
pub record Call : Type 0 where
  pub message : Message
  pub fate : Fate
  pub receipts : List Receipt
  pub behind : Standing

-- there was room for the message
abbrev pub IsNotTurnedAway : Terms → Standing → Message → Type 0
IsNotTurnedAway terms old m = IsTurnedAway terms.limits old.core old.list m → ⊥

-- CALL: There was room for the message. Its event came, with the verdicts that its signatures ask for, unless it is refused or a
-- receipt, and then nothing is stored; it has its fate and its receipts; and all accepted events are stored.
pub record IsCall (terms : Terms) (old : Standing) (call : Call) : Type 0 where
  pub room : IsNotTurnedAway terms old call.message
  pub tells : TellsFate terms.says old.core call.message call.fate call.behind.core
  pub fate_is : IsFate terms.key call.behind.core call.message call.fate
  pub receipts_are : AreReceiptsOf terms.gives terms.key (due_by terms.key old.core call.behind.core call.message call.fate) call.receipts
  pub keeps : KeepsList call.fate old.list call.behind.list
  pub listed : AreListed call.behind.core call.behind.list

-- CALLS: each message was taken as the one before it left the witness
abbrev pub AreCalls : Terms → Standing → List Call → Standing → Type 0
AreCalls terms old [] new = new ≡ old
AreCalls terms old (call ∷ calls) new = IsCall terms old call × AreCalls terms call.behind calls new

-- their messages, and their receipts, in order
abbrev pub messages_in : List Call → List Message
messages_in calls = map (λ c. c.message) calls

abbrev pub receipts_in : List Call → List Receipt
receipts_in calls = flat_map (λ c. c.receipts) calls

-- what a signer is asked for the receipts that are due of them, in order
abbrev pub signings_in : Key → CoreView → List Call → List Signing
signings_in key old [] = []
signings_in key old (call ∷ calls) = signings_of key (due_by key old call.behind.core call.message call.fate) ++ signings_in key call.behind.core calls

-- the text of receipts, one behind the other
abbrev pub text_of : List Receipt → List ℕ
text_of receipts = flat_map (λ r. r.bytes.items) receipts

-- what is noted of a message that is refused: its place, and the reason
abbrev pub refused_as : ℕ → Fate → List Refusal
refused_as place (Refused reason) = record { place = place; reason = reason } ∷ []
refused_as place (Stored listed) = []
refused_as place (Waits why) = []
refused_as place (Seen said) = []
refused_as place NotAnEvent = []

-- the digest of the event that is seen in place of a message's
abbrev pub seen_in : Fate → List Digest
seen_in (Seen said) = said ∷ []
seen_in (Stored listed) = []
seen_in (Waits why) = []
seen_in NotAnEvent = []
seen_in (Refused reason) = []

-- what is noted of all of them, in order
abbrev pub refusals_in : List Call → List Refusal
refusals_in calls = flat_map (λ c. refused_as c.message.place c.fate) calls

abbrev pub digests_in : List Call → List Digest
digests_in calls = flat_map (λ c. seen_in c.fate) calls
