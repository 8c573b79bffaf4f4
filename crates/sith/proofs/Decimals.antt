-- Decimal numbers without leading zeros.
use Rattle.std.proofs.Common.{◌≡◌, ◌≢◌, ℕ, zero, suc, ◌^◌, ◌<◌, inl, inr, List, length, get_or, false, refl, sym, ap, ◌∙◌, arith}
use Rattle.std.specs.Prelude.{◌⊎◌}
use Rattle.std.specs.Fmt.{decimal}
use Rattle.std.specs.Str.Parse.{IsNumeral, AllDigits, digits_value}
use Rattle.std.proofs.lemmas.Fmt.{digits_is_IsNumeral, first_decimal, decimal_digit, decimal-digits_value}
use Rattle.std.proofs.lemmas.Str.Parse.{IsNumeralModel}

-- digits without leading zeros, or 0 itself, that write the number
pub record IsDecimalOf (n : ℕ) (digits : List ℕ) : Type 0 where
  pub numeral : IsNumeral 10 digits
  pub leading : (get_or digits 0 0 ≢ 48) ⊎ (length digits ≡ 1)
  pub value : digits_value 10 digits ≡ n

pub decimal_is : (n : ℕ) → n < 2 ^ 32 → IsDecimalOf n (decimal n)
decimal_is zero few = record { numeral = (digits_is_IsNumeral 10 false (omega arith) (omega arith) 0 (omega arith)).0; leading = inr (ap length (decimal_digit 0 (omega arith))); value = (digits_is_IsNumeral 10 false (omega arith) (omega arith) 0 (omega arith)).1 }
decimal_is (suc n) few =
    let is = digits_is_IsNumeral 10 false (omega arith) (omega arith) (suc n) (omega arith) in
    let first = first_decimal (suc n) (omega arith) (omega arith) in
    record { numeral = is.0; leading = inl (λ e. omega (arith, first, e)); value = is.1 }

numerals : IsNumeralModel (AllDigits 10) (digits_value 10)
numerals = record { to = λ ds all. all; from = λ ds all. all; same = λ ds all. refl }

-- a number has one such spelling
pub one_decimal : (n : ℕ) (digits : List ℕ) → n < 2 ^ 64 → IsDecimalOf n digits → digits ≡ decimal n
one_decimal n digits few is =
    let text = decimal-digits_value numerals digits is.numeral.1 is.numeral.0 (λ zero. elim is.leading [ inl other ↦ absurd (other zero) | inr one ↦ one ]) (omega (arith, is.value, few)) in
    sym text ∙ ap decimal is.value
