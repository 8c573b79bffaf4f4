-- The version string (KERI: version string field; this project's profile).
use Rattle.std.specs.Prelude.{◌≡◌, ◌≢◌, ◌/◌, ◌%◌, ℕ, true, false, List, [], ◌∷◌, ◌++◌, length, codes}
use Rattle.std.specs.Fmt.{digit_glyph}
use Rattle.std.specs.List.{list_all}
use Rattle.lists.specs.KeriSpecs.Hex.{is_hex, hex_value}

-- six lower-case hexadecimal digits
abbrev pub IsSize : List ℕ → Type 0
IsSize size = (length size ≡ 6) × (list_all is_hex size ≡ true)

-- the six last hexadecimal digits of a size, the greatest first
abbrev pub size_text : ℕ → List ℕ
size_text n = digit_glyph false (n / 1048576 % 16) ∷ digit_glyph false (n / 65536 % 16) ∷ digit_glyph false (n / 4096 % 16) ∷ digit_glyph false (n / 256 % 16) ∷ digit_glyph false (n / 16 % 16)
    ∷ digit_glyph false (n % 16) ∷ []

-- the opening brace and the version string, which says the body's size
abbrev pub version_text : List ℕ → List ℕ
version_text size = codes "{\"v\":\"KERI10JSON" ++ (size ++ codes "_\"")

-- the bytes begin with a version string whose size isn't theirs
pub record HasOtherSize (bytes : List ℕ) : Type 0 where
  pub size : List ℕ
  pub rest : List ℕ
  pub sized : IsSize size
  pub text : bytes ≡ version_text size ++ rest
  pub other : hex_value size ≢ length bytes
