-- The rows of a list at which a test holds, by their numbers.
use Rattle.std.specs.Prelude.{◌≡◌, ℕ, Bool, true, false, List, length, slice_get, filter, Contains, Some}
use Rattle.std.specs.List.{range_with_len}
use Rattle.std.specs.List.Sorted.{IsStrictlyIncreasing}
use Rattle.std.specs.Option.{option_map_or}

module _ {X : Type 0} (test : X → Bool) (rows : List X) where
  -- whether the number is that of a row at which the test holds
  abbrev pub is_row : ℕ → Bool
  is_row n = option_map_or test (slice_get rows n) false

  -- the numbers of the rows at which the test holds, in order
  abbrev pub numbers_of : List ℕ
  numbers_of = filter is_row (range_with_len 0 (length rows))

  -- the numbers rise, and among them are those of the rows at which the test holds
  pub record HasRows (numbers : List ℕ) : Type 0 where
    pub rising : IsStrictlyIncreasing numbers
    pub each : (n : ℕ) (row : X) → slice_get rows n ≡ Some row → test row ≡ true → Contains numbers n
