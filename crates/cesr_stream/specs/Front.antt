-- The item at the front of a stream (CESR: framing by counters; this project's profile).
use Rattle.std.specs.Prelude.{ℕ, zero, suc, Bool, true, false, ◌&&◌, ◌||◌, not, ◌==◌, nat_lt, if◌then◌else◌, List, [], ◌∷◌, length, take, drop, slice_index, codes, find, option_map, bytes_eq, ◌-◌, ◌*◌}
use Rattle.std.specs.List.{list_all}
use Rattle.lists.specs.KeriSpecs.Base64.{is_character, number_of_text}
use Rattle.lists.specs.KeriSpecs.Hex.{is_hex, hex_value}
use Rattle.std.specs.declared.option.Option.{Option}
use Rattle.std.specs.declared.option.Option.TheVariants.{None, Some}
use Rattle.cesr_codes.specs.Dates.{moment_verdict}
use Rattle.cesr_codes.specs.Table.{Layout, Verdict, good, short, bad, verdict, layout, total, is_within_code, has_code, fixed_layouts, sig_layouts, number_layouts, digest_layouts, indexed_layouts}
use Rattle.cesr_codes.specs.declared.code_fault.CodeFault.TheVariants.{BadCharacter}
use Rattle.cesr_stream.specs.declared.bad.BadReason.TheVariants.{NoStart, Version, TooLarge, GroupNotSupported, Code, WrapLength, GroupFirst}
use Rattle.cesr_stream.specs.Parts.{Part, whole, refused, unfinished, followed_by, shifted, less}

-- the size that the version string says
abbrev pub size_of : List ℕ → ℕ
size_of bytes = hex_value (take 6 (drop 16 bytes))

-- the first 24 bytes are the opening of a body with its version string
abbrev pub has_version : List ℕ → Bool
has_version bytes = bytes_eq (take 16 bytes) (codes "{\"v\":\"KERI10JSON") && list_all is_hex (take 6 (drop 16 bytes)) && bytes_eq (take 2 (drop 22 bytes)) (codes "_\"")

-- A body is as long as its version string says.
unfoldable pub body_part : ℕ → List ℕ → Part
body_part limit bytes =
    if nat_lt (length bytes) 24 then unfinished
    else if not (has_version bytes) || nat_lt (size_of bytes) 24 then refused 0 Version
    else if nat_lt limit (size_of bytes) then refused 0 TooLarge
    else if nat_lt (length bytes) (size_of bytes) then unfinished
    else whole (size_of bytes)

-- the letters of groups: `A`, `B`, `C`, `E` and `G`
abbrev pub is_group : ℕ → Bool
is_group letter = letter == 65 || letter == 66 || letter == 67 || letter == 69 || letter == 71

-- A counter is a dash, a letter that is supported there and two characters of count.
unfoldable pub counter_part : Bool → List ℕ → Part
counter_part supported bytes =
    if nat_lt (length bytes) 2 then unfinished
    else if not supported then refused 0 GroupNotSupported
    else if nat_lt (length bytes) 4 then unfinished
    else if not (is_character (slice_index bytes 2)) then refused 0 (Code (BadCharacter 2))
    else if not (is_character (slice_index bytes 3)) then refused 0 (Code (BadCharacter 3))
    else whole 4

-- how many elements a counter counts
abbrev pub count_of : List ℕ → ℕ
count_of bytes = number_of_text (take 2 (drop 2 bytes))

-- a part that is judged only where the counter before it is good
abbrev pub behind_counter : Part → Part → Part
behind_counter (whole n) part = part
behind_counter (refused place reason) part = refused place reason
behind_counter unfinished part = unfinished

-- how many characters the code at the front has behind it, with its own, once it shows
abbrev pub shown : List Layout → List ℕ → Option ℕ
shown layouts text = if is_within_code layouts text then None else option_map total (find (has_code text) layouts)

-- a primitive runs past a wrap's end: nothing is left of the wrap, or its code shows that it has more characters
abbrev pub is_past : Option ℕ → Option ℕ → Bool
is_past None count = false
is_past (Some room) None = room == 0
is_past (Some room) (Some count) = room == 0 || nat_lt room count

-- a primitive is judged once all its characters are there, and its code as soon as it shows
abbrev pub judged_part : Verdict → Part
judged_part (good n) = whole n
judged_part short = unfinished
judged_part (bad fault) = refused 0 (Code fault)

-- a primitive, where so much of a wrap is left
abbrev pub primitive_part : List Layout → (List ℕ → Verdict) → Option ℕ → List ℕ → Part
primitive_part layouts judge room text = if is_past room (shown layouts text) then refused 0 WrapLength else judged_part (judge text)

-- date-times
abbrev pub moment_layouts : List Layout
moment_layouts = layout (codes "1AAG") 0 32 24 ∷ []

abbrev pub key_part : Option ℕ → List ℕ → Part
key_part = primitive_part fixed_layouts (verdict fixed_layouts)

abbrev pub sig_part : Option ℕ → List ℕ → Part
sig_part = primitive_part sig_layouts (verdict sig_layouts)

abbrev pub number_part : Option ℕ → List ℕ → Part
number_part = primitive_part number_layouts (verdict number_layouts)

abbrev pub digest_part : Option ℕ → List ℕ → Part
digest_part = primitive_part digest_layouts (verdict digest_layouts)

abbrev pub moment_part : Option ℕ → List ℕ → Part
moment_part = primitive_part moment_layouts moment_verdict

-- one primitive behind another
abbrev pub pair_part : (Option ℕ → List ℕ → Part) → (Option ℕ → List ℕ → Part) → Option ℕ → List ℕ → Part
pair_part first second room bytes = followed_by (first room bytes) (λ n. second (less n room)) bytes

-- an indexed signature; a key and its signature; the number and the date-time of first seeing; an anchoring event
abbrev pub signature_part : Option ℕ → List ℕ → Part
signature_part = primitive_part indexed_layouts (verdict indexed_layouts)

abbrev pub couple_part : Option ℕ → List ℕ → Part
couple_part = pair_part key_part sig_part

abbrev pub seen_part : Option ℕ → List ℕ → Part
seen_part = pair_part number_part moment_part

abbrev pub anchor_part : Option ℕ → List ℕ → Part
anchor_part = pair_part number_part digest_part

-- what a counter with this letter counts
abbrev pub element_part : ℕ → Option ℕ → List ℕ → Part
element_part letter =
    if letter == 67 then couple_part else if letter == 69 then seen_part else if letter == 71 then anchor_part else signature_part

-- so many elements, one behind the other
unfoldable pub elements_part : (Option ℕ → List ℕ → Part) → ℕ → Option ℕ → List ℕ → Part
elements_part element zero room bytes = whole 0
elements_part element (suc count) room bytes = followed_by (element room bytes) (λ n. elements_part element count (less n room)) bytes

-- what a counter counts, behind its four characters
unfoldable pub counted_part : (Option ℕ → List ℕ → Part) → Option ℕ → List ℕ → Part
counted_part element room bytes = shifted 4 (elements_part element (count_of bytes) (less 4 room) (drop 4 bytes))

-- a counter, and what it counts
unfoldable pub group_part : Option ℕ → List ℕ → Part
group_part room bytes = behind_counter (counter_part (is_group (slice_index bytes 1)) bytes) (counted_part (element_part (slice_index bytes 1)) room bytes)

-- A group where so much of a wrap is left. Its counter is within the wrap, since all parts have characters in fours.
abbrev pub begun_group : ℕ → List ℕ → Part
begun_group room [] = unfinished
begun_group room (b ∷ bytes) = if b == 45 then group_part (Some room) (b ∷ bytes) else refused 0 NoStart

-- whole groups, at most so many, up to the end of a wrap
unfoldable pub groups_part : ℕ → ℕ → List ℕ → Part
groups_part zero room bytes = whole 0
groups_part (suc most) room bytes = if room == 0 then whole 0 else followed_by (begun_group room bytes) (λ n. groups_part most (room - n)) bytes

-- a counter of characters in fours, and the groups that have them
unfoldable pub wrap_part : List ℕ → Part
wrap_part bytes = behind_counter (counter_part true bytes) (shifted 4 (groups_part (count_of bytes) (4 * count_of bytes) (drop 4 bytes)))

-- a wrap has the letter `V`
abbrev pub attached_part : List ℕ → Part
attached_part bytes = if slice_index bytes 1 == 86 then wrap_part bytes else group_part None bytes

-- a whole group or wrap that stands before any body is refused
abbrev pub behind_body : Bool → Part → Part
behind_body true part = part
behind_body false (whole n) = refused 0 GroupFirst
behind_body false (refused place reason) = refused place reason
behind_body false unfinished = unfinished

-- The item at the front: a body begins with a brace, a group or a wrap with a dash. `begun` says that a body came before.
unfoldable pub front : ℕ → Bool → List ℕ → Part
front limit begun [] = unfinished
front limit begun (b ∷ bytes) =
    if b == 123 then body_part limit (b ∷ bytes)
    else if b == 45 then behind_body begun (attached_part (b ∷ bytes))
    else refused 0 NoStart
