use Rattle.std.proofs.Common.{◌≡◌, ◌-◌, ◌^◌, take, min}
use Rattle.lists.specs.KeriSpecs.Hex.{hex_value}
use Rattle.lists.proofs.hex_numbers.numbers.saturating_hex_value.Given as goal

-- the number of the digits so far
abbrev pub invariant-loop-digit : goal.invariant-loop-digit
invariant-loop-digit l = l.value ≡ min (hex_value (take l.digit-index l.digits)) (2 ^ 64 - 1)
