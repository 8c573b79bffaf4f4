-- The texts of groups and items.
use Rattle.std.specs.Prelude.{◌≡◌, ℕ, ◌/◌, List, ◌++◌, length, flat_map, slice_index, codes}
use Rattle.lists.specs.KeriSpecs.Base64.{base64_text}
use Rattle.cesr_codes.specs.Indexed.{indexed_text}
use Rattle.cesr_codes.specs.Moments.{moment_text}
use Rattle.cesr_codes.specs.Spelling.{key_text, sig_text, number_text, digest_text}
use Rattle.cesr_stream.specs.declared.anchor_couple.AnchorCouple.{AnchorCouple}
use Rattle.cesr_stream.specs.declared.couple.Couple.{Couple}
use Rattle.cesr_stream.specs.declared.group.Group.{Group}
use Rattle.cesr_stream.specs.declared.group.Group.TheVariants.{Controller, Witness, Couples, FirstSeen, Anchor}
use Rattle.cesr_stream.specs.declared.item.Item.{Item}
use Rattle.cesr_stream.specs.declared.item.Item.TheVariants.{Body, Group as GroupItem, Wrapped}
use Rattle.cesr_stream.specs.declared.seen.Seen.{Seen}

abbrev pub couple_text : Couple → List ℕ
couple_text couple = key_text couple.key ++ sig_text couple.sig

abbrev pub seen_text : Seen → List ℕ
seen_text seen = number_text seen.number ++ moment_text seen.moment

abbrev pub anchor_text : AnchorCouple → List ℕ
anchor_text anchor = number_text anchor.number ++ digest_text anchor.digest

-- a counter, and what it counts
abbrev pub group_text : Group → List ℕ
group_text (Controller sigs) = codes "-A" ++ (base64_text 2 (length sigs) ++ flat_map indexed_text sigs)
group_text (Witness sigs) = codes "-B" ++ (base64_text 2 (length sigs) ++ flat_map indexed_text sigs)
group_text (Couples couples) = codes "-C" ++ (base64_text 2 (length couples) ++ flat_map couple_text couples)
group_text (FirstSeen seen) = codes "-E" ++ (base64_text 2 (length seen) ++ flat_map seen_text seen)
group_text (Anchor anchors) = codes "-G" ++ (base64_text 2 (length anchors) ++ flat_map anchor_text anchors)

-- a counter of the characters of the groups, in fours, and the groups
abbrev pub wrap_text : List Group → List ℕ
wrap_text groups = codes "-V" ++ (base64_text 2 (length (flat_map group_text groups) / 4) ++ flat_map group_text groups)

-- the text of an item: a body begins with a brace
abbrev pub SpellsItem : List ℕ → Item → Type 0
SpellsItem text (Body bytes) = (text ≡ bytes) × (slice_index text 0 ≡ 123)
SpellsItem text (GroupItem group) = text ≡ group_text group
SpellsItem text (Wrapped groups) = text ≡ wrap_text groups

abbrev pub SpellsGroup : List ℕ → Group → Type 0
SpellsGroup text group = text ≡ group_text group

abbrev pub SpellsWrap : List ℕ → List Group → Type 0
SpellsWrap text groups = text ≡ wrap_text groups
