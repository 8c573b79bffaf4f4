-- Lower-case hexadecimal numbers.
use Rattle.std.specs.Prelude.{◌≡◌, ◌≢◌, ℕ, ◌-◌, ◌<◌, ◌||◌, ◌&&◌, ◌⊎◌, Bool, true, nat_lt, nat_le, if◌then◌else◌, List, map, length, slice_index}
use Rattle.std.specs.List.{list_all}
use Rattle.std.specs.Int.Digits.{number_from_digits}

-- a lower-case hexadecimal digit
abbrev pub is_hex : ℕ → Bool
is_hex c = (nat_le 48 c && nat_le c 57) || (nat_le 97 c && nat_le c 102)

abbrev pub hex_digit : ℕ → ℕ
hex_digit c = if nat_lt c 58 then c - 48 else c - 87

abbrev pub hex_value : List ℕ → ℕ
hex_value ds = number_from_digits 16 (map hex_digit ds)

-- digits without leading zeros, and 0 itself
abbrev pub IsHexNumber : List ℕ → Type 0
IsHexNumber ds = (list_all is_hex ds ≡ true) × (0 < length ds) × ((slice_index ds 0 ≢ 48) ⊎ (length ds ≡ 1))

-- the spelling of a number
abbrev pub IsHexOf : ℕ → List ℕ → Type 0
IsHexOf n ds = IsHexNumber ds × (hex_value ds ≡ n)
