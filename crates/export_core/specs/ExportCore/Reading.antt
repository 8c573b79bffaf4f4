-- What a reader reads of an export (CESR: the items of a stream).
use Rattle.std.specs.Prelude.{◌≡◌, ℕ, List, [], ◌∷◌, ◌++◌, filter, map}
use Rattle.cesr_codes.specs.declared.indexed_sig.IndexedSig.{IndexedSig}
use Rattle.cesr_stream.specs.Items.{Items}
use Rattle.cesr_stream.specs.Parts.{unfinished}
use Rattle.cesr_stream.specs.declared.couple.Couple.{Couple}
use Rattle.cesr_stream.specs.declared.item.Item.{Item}
use Rattle.cesr_stream.specs.declared.item.Item.TheVariants.{Body as BodyItem}
use Rattle.journal.specs.Journal.Replies.{is_held}
use Rattle.journal.specs.declared.journal.claim.Claim.TheVariants.{Controller, Witness}
use Rattle.export_core.specs.ExportLaws.Export.{Sent, is_couple, is_witness}
use Rattle.watcher_core.specs.Evidence.{placed_from}
use Rattle.export_core.specs.ExportCore.Messages.{claim_of, couple_group, held_group, witness_group}

-- the items of a message: its body, and behind it its claims as a group of each kind
pub record AreItemsOf (m : Sent) (items : List Item) : Type 0 where
  pub held : List IndexedSig
  pub witness : List IndexedSig
  pub couples : List Couple
  pub held_are : map (λ s. Controller s) held ≡ filter is_held m.claims
  pub witness_are : map (λ s. Witness s) witness ≡ filter is_witness m.claims
  pub couples_are : map claim_of couples ≡ filter is_couple m.claims
  pub items_are : items ≡ BodyItem m.body.bytes ∷ (held_group held ++ (witness_group witness ++ couple_group couples))

-- those of messages, one behind the other
abbrev pub AreItems : List Sent → List Item → Type 0
AreItems [] items = items ≡ []
AreItems (m ∷ more) items = (front rest : List Item) × AreItemsOf m front × AreItems more rest × (items ≡ front ++ rest)

-- READ: a reader of the text reads just the items of these messages, in order, and holds nothing of a further one
pub record ReadsAs (messages : List Sent) (text : List ℕ) : Type 0 where
  pub items : List Item
  pub are_items : AreItems messages items
  pub reads : Items 65535 text (placed_from 0 items) unfinished
