-- The code table (CESR: code table, and text domain): the codes of each type of primitive, and how characters at the
-- front are judged.
use Rattle.std.specs.Prelude.{ℕ, ◌+◌, ◌^◌, Bool, ◌&&◌, not, nat_lt, nat_le, if◌then◌else◌, List, [], ◌∷◌, length, take, drop, find, position, codes, bytes_eq}
use Rattle.std.specs.List.{list_any}
use Rattle.std.specs.declared.option.Option.{Option}
use Rattle.std.specs.declared.option.Option.TheVariants.{None, Some}
use Rattle.lists.specs.KeriSpecs.Base64.{is_character, number_of_text}
use Rattle.cesr_codes.specs.declared.code_fault.CodeFault.{CodeFault}
use Rattle.cesr_codes.specs.declared.code_fault.CodeFault.TheVariants.{CodeNotHeld, BadCharacter, PadBits, OtherIndex}

-- A code, the characters of indices behind it, and the digits of so many raw bytes. The digits hold a few bits more
-- than the bytes, which stand before them and are zero.
pub record Layout : Type 0 where
  pub code : List ℕ
  pub index : ℕ
  pub digits : ℕ
  pub bytes : ℕ

abbrev pub total : Layout → ℕ
total layout = length layout.code + layout.index + layout.digits

abbrev pub layout : List ℕ → ℕ → ℕ → ℕ → Layout
layout code index digits bytes = record { code = code; index = index; digits = digits; bytes = bytes }

-- keys, those that can't be rotated, digests and prefixes of 32 bytes
abbrev pub key_layouts : List Layout
key_layouts = layout (codes "B") 0 43 32 ∷ layout (codes "D") 0 43 32 ∷ []

abbrev pub fixed_layouts : List Layout
fixed_layouts = layout (codes "B") 0 43 32 ∷ []

abbrev pub digest_layouts : List Layout
digest_layouts = layout (codes "E") 0 43 32 ∷ layout (codes "I") 0 43 32 ∷ []

abbrev pub prefix_layouts : List Layout
prefix_layouts = layout (codes "B") 0 43 32 ∷ layout (codes "D") 0 43 32 ∷ layout (codes "E") 0 43 32 ∷ layout (codes "I") 0 43 32 ∷ []

-- numbers of 16 bytes, and signatures of 64
abbrev pub number_layouts : List Layout
number_layouts = layout (codes "0A") 0 22 16 ∷ []

abbrev pub sig_layouts : List Layout
sig_layouts = layout (codes "0B") 0 86 64 ∷ []

-- indexed signatures: of one index in both lists, of the current list alone, and the same with large indices
abbrev pub indexed_layouts : List Layout
indexed_layouts = layout (codes "A") 1 86 64 ∷ layout (codes "B") 1 86 64 ∷ layout (codes "2A") 4 86 64 ∷ layout (codes "2B") 4 86 64 ∷ []

-- How characters at the front are judged: a primitive of so many stands there, or they end within one, or there is a
-- fault.
pub data Verdict : Type 0 where
  good : ℕ → Verdict
  short : Verdict
  bad : CodeFault → Verdict

-- the text is none or a proper beginning of a code
abbrev pub is_within_code : List Layout → List ℕ → Bool
is_within_code layouts text = list_any (λ l. nat_lt (length text) (length l.code) && bytes_eq text (take (length text) l.code)) layouts

-- the text begins with the code
abbrev pub has_code : List ℕ → Layout → Bool
has_code text l = bytes_eq (take (length l.code) text) l.code

-- a signature of the current list alone has `AA` in place of the other index
abbrev pub has_other_index : Layout → List ℕ → Bool
has_other_index l text = bytes_eq l.code (codes "2B") && not (bytes_eq (take 2 (drop 4 text)) (codes "AA"))

-- all the characters of a primitive, by the place of the first that isn't one of the 64, if there is one
abbrev pub whole_verdict : Layout → List ℕ → Option ℕ → Verdict
whole_verdict l text (Some place) = bad (BadCharacter place)
whole_verdict l text None =
    if nat_le (256 ^ l.bytes) (number_of_text (drop (length l.code + l.index) text)) then bad PadBits
    else if has_other_index l text then bad OtherIndex
    else good (total l)

-- the text of the layout that its code has, if one has it
abbrev pub layout_verdict : Option Layout → List ℕ → Verdict
layout_verdict None text = bad CodeNotHeld
layout_verdict (Some l) text =
    if nat_lt (length text) (total l) then short
    else whole_verdict l (take (total l) text) (position (λ c. not (is_character c)) (take (total l) text))

-- The first rule that applies: the text ends within a code; it begins with none; it ends within the primitive; a
-- character isn't one of the 64; a bit before the raw bytes isn't zero; there is another index.
abbrev pub verdict : List Layout → List ℕ → Verdict
verdict layouts text = if is_within_code layouts text then short else layout_verdict (find (has_code text) layouts) text
