use Rattle.std.proofs.Common.{◌≡◌, ℕ, ◌+◌, ◌*◌, ◌^◌, ◌<◌, ◌≤◌, List, [], ◌∷◌, map, take, length, get_or, sym, ap, ◌∙◌, arith}
use Rattle.std.proofs.Math.Nat.{pow-le-pow_right}
use Rattle.std.proofs.lemmas.Grind.{pow_more}
use Rattle.std.proofs.lemmas.List.{take_more, map-append}
use Rattle.std.proofs.lemmas.Int.Digits.{number_push}
use Rattle.std.specs.Int.Digits.{number_from_digits}
use Rattle.lists.specs.KeriSpecs.Hex.{hex_value, hex_digit}
use Rattle.lists.proofs.hex_numbers.numbers.hex_value.Goals as goal

-- one digit more
more_fits : (v i d : ℕ) → v < 16 ^ i → i < 16 → d < 16 → v * 16 + d < 2 ^ 64
more_fits v i d low few below =
    let most : 16 ^ i ≤ 16 ^ 15 = pow-le-pow_right (omega arith) {i = i} {j = 15} (omega arith) in
    omega arith

more_below : (v i d : ℕ) → v < 16 ^ i → d < 16 → v * 16 + d < 16 ^ (i + 1)
more_below v i d low below = omega (arith, pow_more 16 i)

more_value : (ds : List ℕ) (i : ℕ) → i < length ds → hex_value (take (i + 1) ds) ≡ hex_value (take i ds) * 16 + hex_digit (get_or ds i 0)
more_value ds i lt =
    ap hex_value (take_more ds i 0 lt)
    ∙ ap (number_from_digits 16) (map-append hex_digit (take i ds) (get_or ds i 0 ∷ []))
    ∙ number_push 16 (map hex_digit (take i ds)) (hex_digit (get_or ds i 0))

pub overflow_mul-value : goal.overflow_mul-value
overflow_mul-value c = let h = more_fits c.loop-digit.value c.loop-digit.digit-index 0 c.loop-digit.invariant.below (omega arith) (omega arith) in omega arith

pub overflow_add-value : goal.overflow_add-value
overflow_add-value c = let h = more_fits c.loop-digit.value c.loop-digit.digit-index c.from.result c.loop-digit.invariant.below (omega arith) (omega arith) in omega arith

pub loop-digit-preserved : goal.loop-digit-preserved
loop-digit-preserved c = record {
  value = sym (more_value c.args.digits.now c.loop-digit.digit-index c.loop-digit-test.true
      ∙ ap (λ x. x * 16 + hex_digit (get_or c.args.digits.now c.loop-digit.digit-index 0)) (sym c.loop-digit.invariant.value)
      ∙ ap (λ x. c.loop-digit.value * 16 + x) (sym (c.from.ensures ∙ c.digit_value.ensures.value)));
  below = more_below c.loop-digit.value c.loop-digit.digit-index c.from.result c.loop-digit.invariant.below (omega arith);
}
