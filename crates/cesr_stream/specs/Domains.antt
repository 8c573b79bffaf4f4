-- The domains in which texts are put (CESR): as characters, or as the bytes of these.
use Rattle.std.specs.Prelude.{◌≡◌, ℕ, ◌%◌, true, List, length}
use Rattle.std.specs.List.{list_all}
use Rattle.lists.specs.KeriSpecs.Base64.{is_character}
use Rattle.cesr_stream.specs.declared.item.Item.{Item}
use Rattle.cesr_stream.specs.declared.item.Item.TheVariants.{Body, Group as GroupItem, Wrapped}
use Rattle.cesr_stream.specs.Texts.{group_text, wrap_text}

-- characters in fours, which can be turned to whole threes of bytes
pub record IsTurnable (text : List ℕ) : Type 0 where
  pub characters : list_all is_character text ≡ true
  pub fours : length text % 4 ≡ 0

-- a body as it is, and the text of a group or a wrap in a domain
abbrev pub item_in_domain : (List ℕ → List ℕ) → Item → List ℕ
item_in_domain in_domain (Body bytes) = bytes
item_in_domain in_domain (GroupItem group) = in_domain (group_text group)
item_in_domain in_domain (Wrapped groups) = in_domain (wrap_text groups)
