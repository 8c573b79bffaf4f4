-- How a program ends.
use Rattle.std.specs.Prelude.{ℕ}
use Rattle.std.specs.declared.option.Option.{Option}
use Rattle.std.specs.declared.option.Option.TheVariants.{None, Some}

-- the status of its run, and 10 where there was no memory even for its words
abbrev pub ends_with : Option ℕ → ℕ
ends_with (Some status) = status
ends_with None = 10
