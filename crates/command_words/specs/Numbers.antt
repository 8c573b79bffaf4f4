-- Numbers in decimal.
use Rattle.std.specs.Prelude.{ℕ, ◌-◌, ◌&&◌, ◌==◌, not, Bool, true, false, List, [], ◌∷◌, length, map, nat_le, if◌then◌else◌, option_and_then}
use Rattle.std.specs.List.{list_all}
use Rattle.std.specs.Int.Digits.{number_from_digits}
use Rattle.std.specs.declared.option.Option.{Option}
use Rattle.std.specs.declared.option.Option.TheVariants.{None, Some}
use Rattle.clap.specs.Words.{Row, first_of}

abbrev pub is_digit : ℕ → Bool
is_digit c = nat_le 48 c && nat_le c 57

-- without leading zeros, and `0` itself
abbrev pub is_plain : List ℕ → Bool
is_plain [] = false
is_plain (c ∷ []) = true
is_plain (c ∷ d ∷ word) = not (c == 48)

-- a word that is a number in decimal, of as many digits as the greatest of 64 bits has
abbrev pub is_decimal : List ℕ → Bool
is_decimal word = nat_le (length word) 20 && list_all is_digit word && is_plain word

abbrev pub decimal_value : List ℕ → ℕ
decimal_value word = number_from_digits 10 (map (λ c. c - 48) word)

-- the number that a word spells, where it is in this range
abbrev pub number_in : ℕ → ℕ → List ℕ → Option ℕ
number_in least most word =
    if is_decimal word && nat_le least (decimal_value word) && nat_le (decimal_value word) most then Some (decimal_value word) else None

-- the number that an option is set to, where it is in this range
abbrev pub number_set : List ℕ → ℕ → ℕ → List Row → Option ℕ
number_set option least most rows = option_and_then (number_in least most) (first_of option rows)
