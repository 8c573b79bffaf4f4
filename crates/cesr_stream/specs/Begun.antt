-- What is known of an item that was read in part.
use Rattle.std.specs.Prelude.{◌≡◌, ℕ, ◌+◌, ◌-◌, ◌*◌, ◌%◌, ◌^◌, ◌≤◌, ◌<◌, Bool, true, nat_lt, if◌then◌else◌, List, [], ◌∷◌, ◌++◌, length, take, drop, slice_index, flat_map, All}
use Rattle.std.specs.declared.option.Option.{Option}
use Rattle.std.specs.declared.option.Option.TheVariants.{None, Some}
use Rattle.lists.specs.KeriSpecs.Base64.{base64_text}
use Rattle.cesr_codes.specs.Indexed.{indexed_text}
use Rattle.cesr_stream.specs.declared.begun_group.BegunGroup.{BegunGroup}
use Rattle.cesr_stream.specs.declared.begun_item.BegunItem.{BegunItem}
use Rattle.cesr_stream.specs.declared.begun_item.BegunItem.TheVariants.{Body, Group as GroupBegun, Wrap}
use Rattle.cesr_stream.specs.declared.begun_wrap.BegunWrap.{BegunWrap}
use Rattle.cesr_stream.specs.declared.group.Group.{Group}
use Rattle.cesr_stream.specs.declared.group.Group.TheVariants.{Controller, Witness, Couples, FirstSeen, Anchor}
use Rattle.cesr_stream.specs.declared.item.Item.{Item}
use Rattle.cesr_stream.specs.declared.progress.Progress.{Progress}
use Rattle.cesr_stream.specs.Front.{signature_part, couple_part, seen_part, anchor_part, element_part, elements_part, group_part, begun_group, groups_part, wrap_part, behind_body, front, has_version, size_of}
use Rattle.cesr_stream.specs.Groups.{elements_of}
use Rattle.cesr_stream.specs.Parts.{Part, whole, unfinished, shifted, less}
use Rattle.cesr_stream.specs.Written.{IsCounted, IsWritable}
use Rattle.cesr_stream.specs.Texts.{couple_text, seen_text, anchor_text, group_text, wrap_text, SpellsItem}

-- Of so many elements and more some were read, which have this text. Whatever follows the bytes, those left are judged
-- from their place on as all of them are from the front.
pub record AreRead (judged : Option ℕ → List ℕ → Part) (room : Option ℕ) (bytes : List ℕ) (count : ℕ) (text : List ℕ) (progress : Progress) : Type 0 where
  pub within : progress.place ≤ length bytes
  pub spelled : take progress.place bytes ≡ text
  pub same : (more : List ℕ) → shifted progress.place (elements_part judged progress.left (less progress.place room) (drop progress.place (bytes ++ more)))
      ≡ elements_part judged (count + progress.left) room (bytes ++ more)

-- the letter of a group's counter
abbrev pub letter_of : Group → ℕ
letter_of (Controller sigs) = 65
letter_of (Witness sigs) = 66
letter_of (Couples couples) = 67
letter_of (FirstSeen seen) = 69
letter_of (Anchor anchors) = 71

-- how the elements of a group are judged
abbrev pub judged_of : Group → Option ℕ → List ℕ → Part
judged_of (Controller sigs) = signature_part
judged_of (Witness sigs) = signature_part
judged_of (Couples couples) = couple_part
judged_of (FirstSeen seen) = seen_part
judged_of (Anchor anchors) = anchor_part

-- the text of a group's elements
abbrev pub elements_text : Group → List ℕ
elements_text (Controller sigs) = flat_map indexed_text sigs
elements_text (Witness sigs) = flat_map indexed_text sigs
elements_text (Couples couples) = flat_map couple_text couples
elements_text (FirstSeen seen) = flat_map seen_text seen
elements_text (Anchor anchors) = flat_map anchor_text anchors

-- how many elements the counter of a group counts
abbrev pub count_of : BegunGroup → ℕ
count_of begun = elements_of begun.group + begun.progress.left

-- some of the elements behind the counter were read
abbrev pub AreElementsRead : Option ℕ → List ℕ → BegunGroup → Type 0
AreElementsRead room bytes begun = AreRead (judged_of begun.group) room bytes (elements_of begun.group) (elements_text begun.group) begun.progress

-- its counter is the same
pub record IsSameGroup (old new : BegunGroup) : Type 0 where
  pub letter : letter_of new.group ≡ letter_of old.group
  pub judged : judged_of new.group ≡ judged_of old.group
  pub counted : count_of new ≡ count_of old

-- it has no elements
pub record IsEmptyGroup (letter : ℕ) (group : Group) : Type 0 where
  pub lettered : letter_of group ≡ letter
  pub judged : judged_of group ≡ element_part letter
  pub none : elements_of group ≡ 0
  pub text : elements_text group ≡ []

-- The counter of a group was read, and some of its elements.
pub record IsBegun (room : Option ℕ) (bytes : List ℕ) (begun : BegunGroup) : Type 0 where
  pub long : 4 ≤ length bytes
  pub counter : take 4 bytes ≡ 45 ∷ letter_of begun.group ∷ base64_text 2 (count_of begun)
  pub same : (more : List ℕ) → group_part room (bytes ++ more) ≡ shifted 4 (elements_part (judged_of begun.group) (count_of begun) (less 4 room) (drop 4 (bytes ++ more)))
  pub few : count_of begun ≤ 4095
  pub elements : AreElementsRead (less 4 room) (drop 4 bytes) begun

-- all its elements were read: this part is whole
pub record IsWholeGroup (part : Part) (bytes : List ℕ) (begun : BegunGroup) : Type 0 where
  pub is_whole : part ≡ whole (4 + begun.progress.place)
  pub spelled : take (4 + begun.progress.place) bytes ≡ group_text begun.group
  pub within : 4 + begun.progress.place ≤ length bytes
  pub counted : IsCounted begun.group

-- the group at the front of a wrap in which so much is left was begun
pub record IsBegunIn (room : ℕ) (bytes : List ℕ) (begun : BegunGroup) : Type 0 where
  pub group : IsBegun (Some room) bytes begun
  pub same : (more : List ℕ) → begun_group room (bytes ++ more) ≡ group_part (Some room) (bytes ++ more)

abbrev pub MayBeBegun : ℕ → List ℕ → Option BegunGroup → Type 0
MayBeBegun room bytes None = Unit {0}
MayBeBegun room bytes (Some begun) = IsBegunIn room bytes begun

-- Of the groups of a wrap of so many characters in fours some were read, and the next was begun. Whatever follows the
-- bytes, those left are judged from their place on as all of them are from the front.
pub record AreGroupsRead (bytes : List ℕ) (wrap : BegunWrap) : Type 0 where
  pub few : length wrap.groups ≤ wrap.fours
  pub within : wrap.place ≤ length bytes
  pub room : wrap.place ≤ 4 * wrap.fours
  pub whole_fours : wrap.place % 4 ≡ 0
  pub enough : 4 * wrap.fours - wrap.place ≤ 4 * (wrap.fours - length wrap.groups)
  pub spelled : take wrap.place bytes ≡ flat_map group_text wrap.groups
  pub counted : All IsCounted wrap.groups
  pub same : (more : List ℕ) → shifted wrap.place (groups_part (wrap.fours - length wrap.groups) (4 * wrap.fours - wrap.place) (drop wrap.place (bytes ++ more)))
      ≡ groups_part wrap.fours (4 * wrap.fours) (bytes ++ more)
  pub next : MayBeBegun (4 * wrap.fours - wrap.place) (drop wrap.place bytes) wrap.begun

-- The counter of a wrap was read, and some of its groups.
pub record IsBegunWrap (bytes : List ℕ) (wrap : BegunWrap) : Type 0 where
  pub long : 4 ≤ length bytes
  pub short : wrap.fours < 2 ^ 32
  pub few : wrap.fours ≤ 4095
  pub counter : take 4 bytes ≡ 45 ∷ 86 ∷ base64_text 2 wrap.fours
  pub same : (more : List ℕ) → wrap_part (bytes ++ more) ≡ shifted 4 (groups_part wrap.fours (4 * wrap.fours) (drop 4 (bytes ++ more)))
  pub groups : AreGroupsRead (drop 4 bytes) wrap

-- all its groups were read
pub record IsWholeWrap (bytes : List ℕ) (wrap : BegunWrap) : Type 0 where
  pub is_whole : wrap_part bytes ≡ whole (4 + wrap.place)
  pub spelled : take (4 + wrap.place) bytes ≡ wrap_text wrap.groups
  pub within : 4 + wrap.place ≤ length bytes
  pub counted : All IsCounted wrap.groups
  pub short : length (flat_map group_text wrap.groups) ≤ 16380

-- something of so many bytes
abbrev pub sized_part : ℕ → List ℕ → Part
sized_part size bytes = if nat_lt (length bytes) size then unfinished else whole size

-- The version string of the body at the front says this size, and nothing of it is refused.
pub record IsBodySize (limit : ℕ) (bytes : List ℕ) (size : ℕ) : Type 0 where
  pub long : 24 ≤ length bytes
  pub is : size ≡ size_of bytes
  pub version : has_version bytes ≡ true
  pub some : 24 ≤ size
  pub few : size ≤ limit

-- how an item is judged of which the version string or the counter was read
abbrev pub item_part : BegunItem → Bool → List ℕ → Part
item_part (Body size) begun bytes = sized_part size bytes
item_part (GroupBegun group) begun bytes = behind_body begun (group_part None bytes)
item_part (Wrap wrap) begun bytes = behind_body begun (wrap_part bytes)

-- a body of this size begins at the front, as its version string says
pub record IsBodyRead (bytes : List ℕ) (size : ℕ) : Type 0 where
  pub brace : slice_index bytes 0 ≡ 123
  pub long : 24 ≤ length bytes
  pub is : size ≡ size_of bytes
  pub version : has_version bytes ≡ true
  pub some : 24 ≤ size

-- what was read of it stands at the front
abbrev pub IsItemRead : List ℕ → BegunItem → Type 0
IsItemRead bytes (Body size) = IsBodyRead bytes size
IsItemRead bytes (GroupBegun group) = IsBegun None bytes group
IsItemRead bytes (Wrap wrap) = IsBegunWrap bytes wrap

-- all of it was read
abbrev pub IsWholeItem : List ℕ → BegunItem → Type 0
IsWholeItem bytes (Body size) = size ≤ length bytes
IsWholeItem bytes (GroupBegun group) = IsWholeGroup (group_part None bytes) bytes group
IsWholeItem bytes (Wrap wrap) = IsWholeWrap bytes wrap

-- An item was begun that, whatever follows the bytes, is the one at their front.
pub record IsBegunItem (limit : ℕ) (bytes : List ℕ) (item : BegunItem) : Type 0 where
  pub some : 1 ≤ length bytes
  pub same : (begun : Bool) (more : List ℕ) → front limit begun (bytes ++ more) ≡ item_part item begun (bytes ++ more)
  pub read : IsItemRead bytes item

-- an item was begun, or none was
abbrev pub MayBeRead : ℕ → List ℕ → Option BegunItem → Type 0
MayBeRead limit bytes None = Unit {0}
MayBeRead limit bytes (Some item) = IsBegunItem limit bytes item

-- the part is that of an item which is spelled at the front, and may be written
abbrev pub IsItemAt : Part → List ℕ → Item × ℕ → Type 0
IsItemAt part bytes found = (part ≡ whole found.1) × SpellsItem (take found.1 bytes) found.0 × (found.1 ≤ length bytes) × IsWritable found.0
