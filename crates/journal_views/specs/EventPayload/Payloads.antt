-- Payloads of a shelf: an event's body, and behind it the signatures that are kept (own: the payload of version 2; CESR:
-- groups of indexed signatures).
use Rattle.std.specs.Prelude.{◌≡◌, ℕ, zero, suc, ◌≤◌, Bool, true, false, ◌&&◌, List, [], ◌∷◌, ◌++◌, length, take, drop, map, flat_map, codes, bytes_eq, All, None, if◌then◌else◌}
use Rattle.std.specs.Simd.{first_chunks}
use Rattle.std.specs.Slice.Iter.{chunk_count}
use Rattle.cesr_codes.specs.Indexed.{IsIndexed}
use Rattle.cesr_codes.specs.declared.indexed_sig.IndexedSig.{IndexedSig}
use Rattle.cesr_stream.specs.Front.{front}
use Rattle.cesr_stream.specs.Parts.{Part, whole, refused, unfinished}
use Rattle.cesr_stream.specs.Reading.{Reading}
use Rattle.cesr_stream.specs.Written.{IsWritable, item_text}
use Rattle.cesr_stream.specs.declared.group.Group.TheVariants.{Controller}
use Rattle.cesr_stream.specs.declared.item.Item.{Item}
use Rattle.cesr_stream.specs.declared.item.Item.TheVariants.{Body as BodyItem, Group as GroupItem}

-- signatures, cut from the front into parts of 4,095, the last of what is left: a counter's two digits count no more (CESR)
abbrev pub parts_of : List IndexedSig → List (List IndexedSig)
parts_of sigs = first_chunks 4095 (chunk_count (length sigs) 4095) sigs

-- a group of signatures by the controller's keys (CESR, `-A`)
abbrev pub group_of : List IndexedSig → Item
group_of sigs = GroupItem (Controller sigs)

-- groups, one behind the other
abbrev pub groups_text : List (List IndexedSig) → List ℕ
groups_text parts = flat_map item_text (map group_of parts)

-- PAYLOAD: a body, and behind it signatures in as many groups as they need, in none where there are none
abbrev pub payload_of : List ℕ → List IndexedSig → List ℕ
payload_of body sigs = body ++ groups_text (parts_of sigs)

-- a body of the stream's form, and behind it groups of signatures alone
pub record IsPayloadText (payload body : List ℕ) (groups : List (List IndexedSig)) : Type 0 where
  pub form : IsWritable (BodyItem body)
  pub few : length body ≤ 65535
  pub counted : All (λ sigs. length sigs ≤ 4095) groups
  pub raw : All (All IsIndexed) groups
  pub text : payload ≡ body ++ groups_text groups

-- at the front stands a body of the stream's form
pub record BeginsWithBody (payload : List ℕ) : Type 0 where
  pub body : List ℕ
  pub rest : List ℕ
  pub form : IsWritable (BodyItem body)
  pub parted : payload ≡ body ++ rest

-- the front is whole, and the bytes behind it pass the test
abbrev pub followed : (List ℕ → Bool) → List ℕ → Part → Bool
followed are bytes (whole n) = are (drop n bytes)
followed are bytes (refused place reason) = false
followed are bytes unfinished = false

-- whole `-A` groups alone, at most so many
unfoldable pub are_groups : ℕ → List ℕ → Bool
are_groups most [] = true
are_groups zero (b ∷ bytes) = false
are_groups (suc most) (b ∷ bytes) =
    bytes_eq (take 2 (b ∷ bytes)) (codes "-A") && followed (are_groups most) (b ∷ bytes) (front 65535 true (b ∷ bytes))

-- the front, where groups of signatures alone are behind it
abbrev pub front_with : List ℕ → Part → List ℕ
front_with payload (whole n) =
    if are_groups (length (drop n payload)) (drop n payload) then take n payload else []
front_with payload (refused place reason) = []
front_with payload unfinished = []

-- TEXT: the body at the front where good `-A` groups alone follow it to the end; else no bytes, which no event spells. A group
-- has four characters at least, so there are fewer groups than bytes.
unfoldable pub text_in : List ℕ → List ℕ
text_in payload = front_with payload (front 65535 false payload)

-- a reader of bodies of at most 65,535 bytes has answered one, and no rule refused what it read
pub record IsBehindBody (reading : Reading) : Type 0 where
  pub limit : reading.limit ≡ 65535
  pub begun : reading.begun ≡ true
  pub good : reading.bad ≡ None
