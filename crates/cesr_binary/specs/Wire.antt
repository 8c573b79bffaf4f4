-- What is written of items in one domain or the other, and how it is read.
use Rattle.std.specs.Prelude.{◌≡◌, ℕ, Bool, true, List, [], ◌∷◌, ◌++◌, length, map, All}
use Rattle.cesr_stream.specs.declared.item.Item.{Item}
use Rattle.cesr_stream.specs.declared.item.Item.TheVariants.{Body, Group as GroupItem, Wrapped}
use Rattle.cesr_stream.specs.Items.{Placed}
use Rattle.cesr_stream.specs.Parts.{Part, whole}
use Rattle.cesr_stream.specs.Texts.{group_text, wrap_text}
use Rattle.cesr_stream.specs.Written.{item_text, IsItem, IsWritable, MayStand}
use Rattle.cesr_binary.specs.declared.domain.Domain.{Domain}
use Rattle.cesr_binary.specs.declared.domain.Domain.TheVariants.{Binary, Text}
use Rattle.cesr_binary.specs.BinaryDomain.{binary_of}
use Rattle.cesr_binary.specs.Mixed.{mixed_front, MixedItems, SpellsEither, StandMixed}

-- a body as it is, and a group or a wrap in binary
abbrev pub item_binary : Item → List ℕ
item_binary (Body bytes) = bytes
item_binary (GroupItem group) = binary_of (group_text group)
item_binary (Wrapped groups) = binary_of (wrap_text groups)

-- the spelling of an item in a domain
abbrev pub item_in : Domain → Item → List ℕ
item_in Binary item = item_binary item
item_in Text item = item_text item

-- Whatever follows the bytes, they are the item at the front, in a place where it may stand.
pub record IsRead (limit : ℕ) (begun : Bool) (bytes rest : List ℕ) (item : Item) : Type 0 where
  pub is_whole : mixed_front limit begun (bytes ++ rest) ≡ whole (length bytes)
  pub spelled : SpellsEither bytes item

-- an item with the domain in which it is written
pub record Written : Type 0 where
  pub domain : Domain
  pub item : Item

abbrev pub written : Domain → Item → Written
written domain item = record { domain = domain; item = item }

-- the spellings of the items, one after the other
abbrev pub wire : List Written → List ℕ
wire [] = []
wire (first ∷ rest) = item_in first.domain first.item ++ wire rest

-- each of them may be written, and may stand where it does
abbrev pub MayAllStand : ℕ → Bool → List Written → Type 0
MayAllStand limit begun [] = Unit {0}
MayAllStand limit begun (first ∷ rest) = IsItem first.item × IsWritable first.item × MayStand limit begun first.item × MayAllStand limit true rest

-- These items, one after the other, are all of the bytes, and there are no others from their front whose raw bytes are bytes.
pub record ReadsBack (limit : ℕ) (bytes : List ℕ) (items : List Item) : Type 0 where
  pub placed : List Placed
  pub begun : Bool
  pub stand : StandMixed limit bytes placed begun (length bytes)
  pub same : map (λ p. p.item) placed ≡ items
  pub only : (others : List Placed) (end : Part) → MixedItems limit bytes others end → All (λ p. IsItem p.item) others
      → map (λ p. p.item) others ≡ items
