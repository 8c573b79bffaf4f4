use Rattle.std.proofs.Common.{◌≡◌, ◌^◌, ◌<◌, take}
use Rattle.command_words.specs.Numbers.{decimal_value}
use Rattle.command_words.proofs.number.decimal_value.Given as goal

-- the number of the digits so far
abbrev pub invariant-loop-digit : goal.invariant-loop-digit
invariant-loop-digit l = record {
  value : l.value ≡ decimal_value (take l.digit-index l.digits);
  below : l.value < 10 ^ l.digit-index;
}
