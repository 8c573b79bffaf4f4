use Rattle.std.proofs.Common.{◌≡◌, ℕ, ◌+◌, ◌-◌, ◌*◌, ◌^◌, ◌<◌, ◌≤◌, true, List, [], ◌∷◌, map, take, length, get_or, sym, ap, ◌∙◌, arith, inl, inr}
use Rattle.std.specs.List.{list_all}
use Rattle.std.proofs.Math.Nat.{pow-le-pow_right}
use Rattle.std.proofs.lemmas.Bool.{and_parts, cases_Bool, leb-true}
use Rattle.std.proofs.lemmas.Grind.{pow_more}
use Rattle.std.proofs.lemmas.List.{take_more, map-append}
use Rattle.std.proofs.lemmas.List.Folds.{list_all_at}
use Rattle.std.proofs.lemmas.Int.Digits.{number_push}
use Rattle.std.specs.Int.Digits.{number_from_digits}
use Rattle.command_words.specs.Numbers.{decimal_value, is_decimal, is_digit}
use Rattle.command_words.proofs.number.decimal_value.Goals as goal

-- one digit more
more_fits : (v i d : ℕ) → v < 10 ^ i → i < 20 → d < 10 → v * 10 + d < 2 ^ 128
more_fits v i d low few below =
    let most : 10 ^ i ≤ 10 ^ 19 = pow-le-pow_right (omega arith) {i = i} {j = 19} (omega arith) in
    omega arith

more_below : (v i d : ℕ) → v < 10 ^ i → d < 10 → v * 10 + d < 10 ^ (i + 1)
more_below v i d low below = omega (arith, pow_more 10 i)

more_value : (ds : List ℕ) (i : ℕ) → i < length ds → decimal_value (take (i + 1) ds) ≡ decimal_value (take i ds) * 10 + (get_or ds i 0 - 48)
more_value ds i lt =
    ap decimal_value (take_more ds i 0 lt)
    ∙ ap (number_from_digits 10) (map-append (λ c. c - 48) (take i ds) (get_or ds i 0 ∷ []))
    ∙ number_push 10 (map (λ c. c - 48) (take i ds)) (get_or ds i 0 - 48)

-- each is a digit
digit_at : (ds : List ℕ) (i : ℕ) → is_decimal ds ≡ true → i < length ds → is_digit (get_or ds i 0) ≡ true
digit_at ds i all lt = elim (cases_Bool (is_digit (get_or ds i 0))) [
  | inl t ↦ t
  | inr f ↦ (let each : list_all is_digit ds ≡ true = (and_parts _ _ (and_parts _ _ all).0).1 in cc (list_all_at is_digit ds i 0 lt f))
]

few_digits : (ds : List ℕ) → is_decimal ds ≡ true → length ds ≤ 20
few_digits ds all = leb-true _ _ (and_parts _ _ (and_parts _ _ all).0).0

below_ten : (c : ℕ) → is_digit c ≡ true → (48 ≤ c) × (c - 48 < 10)
below_ten c is = let h = and_parts _ _ is in (leb-true _ _ h.0, (let top = leb-true _ _ h.1 in omega arith))

pub overflow_mul-value : goal.overflow_mul-value
overflow_mul-value c =
    let few = few_digits c.args.digits.now c.requires in
    let at = c.loop-digit-test.true in
    let h = more_fits c.loop-digit.value c.loop-digit.digit-index 0 c.loop-digit.invariant.below (omega arith) (omega arith) in omega arith

pub overflow_sub-digit : goal.overflow_sub-digit
overflow_sub-digit c = (below_ten _ (digit_at c.args.digits.now c.loop-digit.digit-index c.requires c.loop-digit-test.true)).0

pub overflow_add-value : goal.overflow_add-value
overflow_add-value c =
    let few = few_digits c.args.digits.now c.requires in
    let at = c.loop-digit-test.true in
    let d = get_or c.args.digits.now c.loop-digit.digit-index 0 in
    let digit : d - 48 < 10 = (below_ten d (digit_at c.args.digits.now c.loop-digit.digit-index c.requires at)).1 in
    let from : c.from.result ≡ d - 48 = c.from.ensures in
    let h = more_fits c.loop-digit.value c.loop-digit.digit-index c.from.result c.loop-digit.invariant.below (omega arith) (omega arith) in omega arith

pub loop-digit-preserved : goal.loop-digit-preserved
loop-digit-preserved c =
    let at = c.loop-digit-test.true in
    let d = get_or c.args.digits.now c.loop-digit.digit-index 0 in
    let digit : d - 48 < 10 = (below_ten d (digit_at c.args.digits.now c.loop-digit.digit-index c.requires at)).1 in
    let from : c.from.result ≡ d - 48 = c.from.ensures in
    record {
      value = sym (more_value c.args.digits.now c.loop-digit.digit-index at
          ∙ ap (λ x. x * 10 + (get_or c.args.digits.now c.loop-digit.digit-index 0 - 48)) (sym c.loop-digit.invariant.value)
          ∙ ap (λ x. c.loop-digit.value * 10 + x) (sym from));
      below = more_below c.loop-digit.value c.loop-digit.digit-index c.from.result c.loop-digit.invariant.below (omega arith);
    }
