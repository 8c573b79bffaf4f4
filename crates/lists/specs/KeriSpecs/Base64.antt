-- Base 64 as whole numbers (CESR): a primitive is its code and the digits of its raw bytes, read as one number.
use Rattle.std.specs.Prelude.{◌≡◌, ℕ, zero, suc, ◌/◌, ◌%◌, ◌<◌, List, [], ◌∷◌, ◌++◌, length, map, codes, slice_index, Bool, ◌==◌}
use Rattle.std.specs.List.{list_any, position_or_len}
use Rattle.std.specs.Int.Digits.{number_from_digits}

-- the 64 characters, in order of their values
abbrev pub characters : List ℕ
characters = codes "ABCDEFGHIJKLMNOPQRSTUVWXYZabcdefghijklmnopqrstuvwxyz0123456789-_"

-- the character of a digit
abbrev pub character : ℕ → ℕ
character d = slice_index characters d

-- so many digits of a number in a base, the greatest first; what does not fit them is left out
unfoldable pub digits_in : ℕ → ℕ → ℕ → List ℕ
digits_in base zero n = []
digits_in base (suc k) n = digits_in base k (n / base) ++ (n % base) ∷ []

-- bytes as one whole number, the greatest first
abbrev pub whole_number : List ℕ → ℕ
whole_number bytes = number_from_digits 256 bytes

-- so many digits of the number in base 64, as characters
abbrev pub base64_text : ℕ → ℕ → List ℕ
base64_text count n = map character (digits_in 64 count n)

-- so many bytes
abbrev pub AreBytes : ℕ → List ℕ → Type 0
AreBytes count raw = (length raw ≡ count) × ((i : ℕ) → slice_index raw i < 256)

-- one of the 64 characters
abbrev pub is_character : ℕ → Bool
is_character c = list_any (λ x. x == c) characters

-- the digit of a character: its place among the 64
abbrev pub digit_of : ℕ → ℕ
digit_of c = position_or_len (λ x. x == c) characters

-- the number that characters spell as digits in base 64
abbrev pub number_of_text : List ℕ → ℕ
number_of_text text = number_from_digits 64 (map digit_of text)
