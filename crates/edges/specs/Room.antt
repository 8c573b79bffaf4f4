-- How much may be written.
use Rattle.std.specs.Prelude.{ℕ, ◌-◌, ◌^◌, max}
use Rattle.std.specs.declared.option.Option.{Option}
use Rattle.std.specs.declared.option.Option.TheVariants.{None, Some}

-- what lies between the greatest size and the place that is written next, where it is a file, and else any number
abbrev pub room_of : Option ℕ → ℕ → ℕ → ℕ
room_of (Some size) position limit = limit - max size position
room_of None position limit = 2 ^ 64 - 1
