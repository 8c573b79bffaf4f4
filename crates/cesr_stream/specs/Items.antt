-- The items of a stream.
use Rattle.std.specs.Prelude.{◌≡◌, ℕ, ◌+◌, Bool, true, false, List, [], ◌∷◌, ◌++◌, take, drop}
use Rattle.cesr_stream.specs.declared.item.Item.{Item}
use Rattle.cesr_stream.specs.Parts.{Part, whole, refused, unfinished}
use Rattle.cesr_stream.specs.Front.{front}
use Rattle.cesr_stream.specs.Texts.{SpellsItem}

-- an item of a stream with its place
pub record Placed : Type 0 where
  pub place : ℕ
  pub item : Item

abbrev pub placed : ℕ → Item → Placed
placed place item = record { place = place; item = item }

-- These items stand one after the other from the front. Whether a body is among them, and where the rest begins.
pub data Stand (limit : ℕ) (bytes : List ℕ) : List Placed → Bool → ℕ → Type 0 where
  none : Stand limit bytes [] false 0
  one : {items : List Placed} {begun : Bool} {place : ℕ} (n : ℕ) (item : Item) → Stand limit bytes items begun place
      → front limit begun (drop place bytes) ≡ whole n → SpellsItem (take n (drop place bytes)) item
      → Stand limit bytes (items ++ placed place item ∷ []) true (place + n)

-- the judgement isn't that of a whole item
abbrev pub IsEnd : Part → Type 0
IsEnd (whole n) = ⊥
IsEnd (refused place reason) = Unit {0}
IsEnd unfinished = Unit {0}

-- All the items from the front, and how what is behind them is judged: a rule refuses it at a place from its start, or
-- it is no whole item.
pub record Items (limit : ℕ) (bytes : List ℕ) (items : List Placed) (end : Part) : Type 0 where
  pub begun : Bool
  pub place : ℕ
  pub stand : Stand limit bytes items begun place
  pub behind : front limit begun (drop place bytes) ≡ end
  pub ends : IsEnd end
