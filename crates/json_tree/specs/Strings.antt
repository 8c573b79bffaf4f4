-- What stands between the quotes of a string. RFC 8259, sections 7 and 8.1.
use Rattle.std.specs.Prelude.{◌≡◌, ◌≢◌, ◌≤◌, ℕ, List, [], ◌∷◌, IsTrue, Bool, ◌==◌, codes, length}
use Rattle.std.specs.List.{list_any, list_all, AllByRecursion, concat}
use Rattle.std.specs.Str.{IsUtf8}

-- RFC 5234, HEXDIG, here of either case
abbrev pub is_hex_digit : ℕ → Bool
is_hex_digit b = list_any (λ c. c == b) (codes "0123456789ABCDEFabcdef")

-- the bytes that an escape of one byte has behind its reverse solidus
abbrev pub is_short_escape : ℕ → Bool
is_short_escape b = list_any (λ c. c == b) (codes "\"\\/bfnrt")

-- Section 7, unescaped = %x20-21 / %x23-5B / %x5D-10FFFF. A byte from 128 on is a part of such a character:
-- section 8.1 is about these.
abbrev pub IsUnescaped : ℕ → Type 0
IsUnescaped b = (32 ≤ b) × (b ≢ 34) × (b ≢ 92)

-- 4HEXDIG
abbrev pub IsFourHexDigits : List ℕ → Type 0
IsFourHexDigits digits = (length digits ≡ 4) × IsTrue (list_all is_hex_digit digits)

-- Section 7, what stands behind a reverse solidus: %x22 / %x5C / %x2F / %x62 / %x66 / %x6E / %x72 / %x74 / %x75 4HEXDIG
pub data IsEscape (text : List ℕ) : Type 0 where
  short : (b : ℕ) → IsTrue (is_short_escape b) → text ≡ b ∷ [] → IsEscape text
  numbered : (digits : List ℕ) → IsFourHexDigits digits → text ≡ 117 ∷ digits → IsEscape text

-- Section 7, char
pub data IsChar (text : List ℕ) : Type 0 where
  unescaped : (b : ℕ) → IsUnescaped b → text ≡ b ∷ [] → IsChar text
  escaped : (escape : List ℕ) → IsEscape escape → text ≡ 92 ∷ escape → IsChar text

-- Section 7, *char
pub record AreChars (text : List ℕ) : Type 0 where
  pub chars : List (List ℕ)
  pub each : AllByRecursion IsChar chars
  pub whole : text ≡ concat chars

-- Section 8.1: the text is UTF-8
pub record IsString (text : List ℕ) : Type 0 where
  pub chars : AreChars text
  pub utf8 : IsUtf8 text
