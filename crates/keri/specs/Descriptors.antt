-- Which descriptors files and pipes have.
use Rattle.std.specs.Prelude.{ℤ, pos, ◌<ℤ◌}
use Rattle.std.specs.declared.option.Option.{Option}
use Rattle.std.specs.declared.option.Option.TheVariants.{None, Some}

-- it is none of 0, 1 and 2, which are those of the standard streams, where it is said
abbrev pub IsBehindStreams : Option ℤ → Type 0
IsBehindStreams None = Unit {0}
IsBehindStreams (Some descriptor) = pos 2 <ℤ descriptor
