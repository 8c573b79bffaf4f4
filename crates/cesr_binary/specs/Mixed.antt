-- The items of a stream whose groups stand in either domain.
use Rattle.std.specs.Prelude.{◌≡◌, ℕ, ◌+◌, Bool, true, false, if◌then◌else◌, List, [], ◌∷◌, ◌++◌, take, drop, slice_index}
use Rattle.cesr_stream.specs.declared.item.Item.{Item}
use Rattle.cesr_stream.specs.Front.{front}
use Rattle.cesr_stream.specs.Items.{IsEnd, Placed, placed}
use Rattle.cesr_stream.specs.Parts.{Part, whole, refused, unfinished}
use Rattle.cesr_stream.specs.Texts.{SpellsItem}
use Rattle.cesr_binary.specs.BinaryDomain.{text_of, in_bytes, is_binary}

-- a part of a text, as one of the bytes
abbrev pub in_binary : Part → Part
in_binary (whole n) = whole (in_bytes n)
in_binary (refused place reason) = refused (in_bytes place) reason
in_binary unfinished = unfinished

-- The item at the front. Where its first byte is that of a dash in binary it is judged as the text of the bytes.
unfoldable pub mixed_front : ℕ → Bool → List ℕ → Part
mixed_front limit begun [] = unfinished
mixed_front limit begun (b ∷ bytes) = if is_binary b then in_binary (front limit begun (text_of (b ∷ bytes))) else front limit begun (b ∷ bytes)

-- the text of an item in either domain
unfoldable pub text_in_either : List ℕ → List ℕ
text_in_either bytes = if is_binary (slice_index bytes 0) then text_of bytes else bytes

-- the bytes spell an item in either domain
abbrev pub SpellsEither : List ℕ → Item → Type 0
SpellsEither bytes item = SpellsItem (text_in_either bytes) item

-- These items stand one after the other from the front. Whether a body is among them, and where the rest begins.
pub data StandMixed (limit : ℕ) (bytes : List ℕ) : List Placed → Bool → ℕ → Type 0 where
  none : StandMixed limit bytes [] false 0
  one : {items : List Placed} {begun : Bool} {place : ℕ} (n : ℕ) (item : Item) → StandMixed limit bytes items begun place
      → mixed_front limit begun (drop place bytes) ≡ whole n → SpellsEither (take n (drop place bytes)) item
      → StandMixed limit bytes (items ++ placed place item ∷ []) true (place + n)

-- all the items from the front, and how what is behind them is judged
pub record MixedItems (limit : ℕ) (bytes : List ℕ) (items : List Placed) (end : Part) : Type 0 where
  pub begun : Bool
  pub place : ℕ
  pub stand : StandMixed limit bytes items begun place
  pub behind : mixed_front limit begun (drop place bytes) ≡ end
  pub ends : IsEnd end
