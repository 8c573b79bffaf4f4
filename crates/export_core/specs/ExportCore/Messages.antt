-- The text of messages (CESR: a body, and behind it groups of attachments).
use Rattle.std.specs.Prelude.{◌≡◌, ℕ, ◌≤◌, List, [], ◌∷◌, ◌++◌, All, filter, flat_map, length, map}
use Rattle.cesr_codes.specs.Indexed.{IsIndexed}
use Rattle.cesr_codes.specs.declared.indexed_sig.IndexedSig.{IndexedSig}
use Rattle.cesr_codes.specs.declared.key.KeyCode.TheVariants.{Fixed}
use Rattle.cesr_stream.specs.Written.{IsCouple, item_text}
use Rattle.cesr_stream.specs.declared.couple.Couple.{Couple}
use Rattle.cesr_stream.specs.declared.group.Group.TheVariants.{Controller as ControllerGroup, Witness as WitnessGroup, Couples}
use Rattle.cesr_stream.specs.declared.item.Item.{Item}
use Rattle.cesr_stream.specs.declared.item.Item.TheVariants.{Group as GroupItem}
use Rattle.journal.specs.Journal.Replies.{is_held}
use Rattle.journal.specs.declared.journal.claim.Claim.{Claim}
use Rattle.journal.specs.declared.journal.claim.Claim.TheVariants.{Controller, Witness, Couple as CoupleClaim}
use Rattle.export_core.specs.ExportLaws.Export.{Sent, cut_claims, is_couple, is_witness, runs_by}

-- the claim of a couple
abbrev pub claim_of : Couple → Claim
claim_of c = CoupleClaim c.key c.sig

-- a key beside its signature can't be rotated (KERI: a witness's is non-transferable)
abbrev pub IsFixed : Claim → Type 0
IsFixed (Controller s) = Unit {0}
IsFixed (Witness s) = Unit {0}
IsFixed (CoupleClaim key sig) = key.code ≡ Fixed

-- a group of the controller's signatures (CESR, -A), of witnesses' by their indices (-B) and with their keys (-C), where there
-- are some
abbrev pub held_group : List IndexedSig → List Item
held_group [] = []
held_group (s ∷ sigs) = GroupItem (ControllerGroup (s ∷ sigs)) ∷ []

abbrev pub witness_group : List IndexedSig → List Item
witness_group [] = []
witness_group (s ∷ sigs) = GroupItem (WitnessGroup (s ∷ sigs)) ∷ []

abbrev pub couple_group : List Couple → List Item
couple_group [] = []
couple_group (c ∷ couples) = GroupItem (Couples (c ∷ couples)) ∷ []

-- no more signatures and couples of a kind than a message may have at the standard limits, and the raw bytes of each are bytes
pub record MayBeSent (held witness : List IndexedSig) (couples : List Couple) : Type 0 where
  pub few_held : length held ≤ 1024
  pub few_witness : length witness ≤ 1024
  pub few_couples : length couples ≤ 1024
  pub raw_held : All IsIndexed held
  pub raw_witness : All IsIndexed witness
  pub raw_couples : All IsCouple couples

-- the text of a body with these claims: the body, and behind it a group of each kind
pub record IsMessageText (bytes : List ℕ) (claims : List Claim) (text : List ℕ) : Type 0 where
  pub held : List IndexedSig
  pub witness : List IndexedSig
  pub couples : List Couple
  pub held_are : map (λ s. Controller s) held ≡ filter is_held claims
  pub witness_are : map (λ s. Witness s) witness ≡ filter is_witness claims
  pub couples_are : map claim_of couples ≡ filter is_couple claims
  pub sent : MayBeSent held witness couples
  pub text_is : text ≡ bytes ++ flat_map item_text (held_group held ++ (witness_group witness ++ couple_group couples))

-- the texts of a body with each of these lists of claims, one behind the other
abbrev pub AreTexts : List ℕ → List (List Claim) → List ℕ → Type 0
AreTexts bytes [] text = text ≡ []
AreTexts bytes (claims ∷ more) text = (front rest : List ℕ) × IsMessageText bytes claims front × AreTexts bytes more rest × (text ≡ front ++ rest)

-- EXPORT: the texts of messages, one behind the other
abbrev pub IsExportText : List Sent → List ℕ → Type 0
IsExportText [] text = text ≡ []
IsExportText (m ∷ more) text = (front rest : List ℕ) × IsMessageText m.body.bytes m.claims front × IsExportText more rest × (text ≡ front ++ rest)

-- the text of a message is put
abbrev pub PutsMessage : List ℕ → List Claim → List ℕ → List ℕ → Type 0
PutsMessage bytes claims old new = (text : List ℕ) × IsMessageText bytes claims text × (new ≡ old ++ text)

-- that of messages with the first claim and each run of the others
abbrev pub PutsRuns : List ℕ → Claim → ℕ → List Claim → List ℕ → List ℕ → Type 0
PutsRuns bytes first n rest old new = (text : List ℕ) × AreTexts bytes (map (λ run. first ∷ run) (runs_by n 1023 rest)) text × (new ≡ old ++ text)

-- that of the messages of an event with these claims, in their order
abbrev pub PutsCut : List ℕ → List Claim → List ℕ → List ℕ → Type 0
PutsCut bytes claims old new = (text : List ℕ) × AreTexts bytes (cut_claims claims) text × (new ≡ old ++ text)
