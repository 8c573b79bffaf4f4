use Rattle.std.proofs.Common.{◌≡◌, ℕ, ◌+◌, ◌*◌, ◌<◌, List, [], ◌∷◌, map, take, length, get_or, ap, ◌∙◌, arith}
use Rattle.std.proofs.lemmas.List.{take_more, map-append}
use Rattle.std.proofs.lemmas.Int.Digits.{number_push}
use Rattle.std.specs.Int.Digits.{number_from_digits}
use Rattle.lists.specs.KeriSpecs.Hex.{hex_value, hex_digit}
use Rattle.lists.proofs.hex_numbers.numbers.saturating_hex_value.Goals as goal

-- one digit more
more_value : (ds : List ℕ) (i : ℕ) → i < length ds → hex_value (take (i + 1) ds) ≡ hex_value (take i ds) * 16 + hex_digit (get_or ds i 0)
more_value ds i lt =
    ap hex_value (take_more ds i 0 lt)
    ∙ ap (number_from_digits 16) (map-append hex_digit (take i ds) (get_or ds i 0 ∷ []))
    ∙ number_push 16 (map hex_digit (take i ds)) (hex_digit (get_or ds i 0))

pub loop-digit-preserved : goal.loop-digit-preserved
loop-digit-preserved c =
    let more = more_value c.args.digits.now c.loop-digit.digit-index c.loop-digit-test.true in
    let times = c.saturating_mul-times.ensures in
    let sum = c.saturating_add-value.ensures in
    let digit = c.from.ensures in
    let value = c.digit_value.ensures.value in
    omega (arith, more, times, sum, digit, value, c.loop-digit.invariant)
