-- The binary domain (CESR): four characters of six bits are three bytes.
use Rattle.std.specs.Prelude.{ℕ, ◌*◌, ◌/◌, Bool, ◌&&◌, nat_le, List, [], ◌∷◌, ◌++◌}
use Rattle.lists.specs.KeriSpecs.Base64.{base64_text, digits_in, number_of_text, whole_number}

-- each whole three bytes as four characters; a rest of one or two is left out
unfoldable pub text_of : List ℕ → List ℕ
text_of [] = []
text_of (a ∷ []) = []
text_of (a ∷ b ∷ []) = []
text_of (a ∷ b ∷ c ∷ bytes) = base64_text 4 (whole_number (a ∷ b ∷ c ∷ [])) ++ text_of bytes

-- each four characters as three bytes
unfoldable pub binary_of : List ℕ → List ℕ
binary_of [] = []
binary_of (a ∷ []) = []
binary_of (a ∷ b ∷ []) = []
binary_of (a ∷ b ∷ c ∷ []) = []
binary_of (a ∷ b ∷ c ∷ d ∷ text) = digits_in 256 3 (number_of_text (a ∷ b ∷ c ∷ d ∷ [])) ++ binary_of text

-- a place in the text, as one in the bytes
abbrev pub in_bytes : ℕ → ℕ
in_bytes place = place / 4 * 3

-- the first byte of what begins with a dash, whose six bits are 62
abbrev pub is_binary : ℕ → Bool
is_binary byte = nat_le 248 byte && nat_le byte 251
