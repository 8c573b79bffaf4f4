-- What is written of an item, which items may be written, and where an item may stand.
use Rattle.std.specs.Prelude.{◌≡◌, ℕ, ◌≤◌, Bool, true, List, length, flat_map, All}
use Rattle.cesr_codes.specs.Indexed.{IsIndexed}
use Rattle.cesr_codes.specs.Moments.{IsMoment}
use Rattle.cesr_codes.specs.Spelling.{IsKey, IsSig, IsNumber, IsDigest}
use Rattle.cesr_stream.specs.declared.anchor_couple.AnchorCouple.{AnchorCouple}
use Rattle.cesr_stream.specs.declared.couple.Couple.{Couple}
use Rattle.cesr_stream.specs.declared.group.Group.{Group}
use Rattle.cesr_stream.specs.declared.group.Group.TheVariants.{Controller, Witness, Couples, FirstSeen, Anchor}
use Rattle.cesr_stream.specs.declared.item.Item.{Item}
use Rattle.cesr_stream.specs.declared.item.Item.TheVariants.{Body, Group as GroupItem, Wrapped}
use Rattle.cesr_stream.specs.declared.seen.Seen.{Seen}
use Rattle.cesr_stream.specs.Front.{has_version, size_of}
use Rattle.cesr_stream.specs.Groups.{elements_of}
use Rattle.cesr_stream.specs.Texts.{group_text, wrap_text}

-- the spelling of an item
abbrev pub item_text : Item → List ℕ
item_text (Body bytes) = bytes
item_text (GroupItem group) = group_text group
item_text (Wrapped groups) = wrap_text groups

-- a counter's two digits count the elements
abbrev pub IsCounted : Group → Type 0
IsCounted group = elements_of group ≤ 4095

-- A body has a version string, which says its length. Two digits count the elements of each group, and the characters of
-- a wrap in fours.
abbrev pub IsWritable : Item → Type 0
IsWritable (Body bytes) = (has_version bytes ≡ true) × (size_of bytes ≡ length bytes)
IsWritable (GroupItem group) = IsCounted group
IsWritable (Wrapped groups) = All IsCounted groups × (length (flat_map group_text groups) ≤ 16380)

abbrev pub IsCouple : Couple → Type 0
IsCouple couple = IsKey couple.key × IsSig couple.sig

abbrev pub IsSeen : Seen → Type 0
IsSeen seen = IsNumber seen.number × IsMoment seen.moment

abbrev pub IsAnchor : AnchorCouple → Type 0
IsAnchor anchor = IsNumber anchor.number × IsDigest anchor.digest

-- the raw bytes of each primitive are bytes
abbrev pub IsGroup : Group → Type 0
IsGroup (Controller sigs) = All IsIndexed sigs
IsGroup (Witness sigs) = All IsIndexed sigs
IsGroup (Couples couples) = All IsCouple couples
IsGroup (FirstSeen seen) = All IsSeen seen
IsGroup (Anchor anchors) = All IsAnchor anchors

abbrev pub IsItem : Item → Type 0
IsItem (Body bytes) = Unit {0}
IsItem (GroupItem group) = IsGroup group
IsItem (Wrapped groups) = All IsGroup groups

-- a body of so many bytes at most may stand anywhere, and a group or a wrap where a body came before
abbrev pub MayStand : ℕ → Bool → Item → Type 0
MayStand limit begun (Body bytes) = length bytes ≤ limit
MayStand limit begun (GroupItem group) = begun ≡ true
MayStand limit begun (Wrapped groups) = begun ≡ true
