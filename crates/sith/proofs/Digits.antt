-- A number has one spelling in lower-case hexadecimal digits.
use Rattle.std.proofs.Common.{◌≡◌, ◌≢◌, ℕ, ◌+◌, ◌*◌, ◌^◌, ◌<◌, ◌≤◌, true, List, [], ◌∷◌, length, map, false, refl, sym, ap, ◌∙◌, subst, arith, inl, inr}
use Rattle.std.specs.List.{list_all}
use Rattle.std.specs.Fmt.{digits}
use Rattle.std.specs.Int.Digits.{AllBelowBase}
use Rattle.std.proofs.Math.Nat.{pow-le-pow_right, mul-le-mul_right}
use Rattle.std.proofs.lemmas.Bool.{cases_Bool, cases_lt}
use Rattle.std.proofs.lemmas.Bool.Decides.{nat_tests}
use Rattle.std.proofs.lemmas.Int.Digits.{number_lt}
use Rattle.std.proofs.lemmas.List.{length-map}
use Rattle.lists.specs.KeriSpecs.Hex.{is_hex, hex_digit, hex_value, IsHexNumber, IsHexOf}
use Rattle.lists.specs.KeriSpecs.Base64.{digits_in}
use Rattle.lists.proofs.KeriSpecsLemmas.Digits.{digits_in-number, number_after-split}
use Rattle.sith.proofs.Numerals.{hex_is}

digit_small : (c : ℕ) → is_hex c ≡ true → hex_digit c < 16
digit_small c is = grind (arith, nat_tests)

one_digit : (c d : ℕ) → is_hex c ≡ true → is_hex d ≡ true → hex_digit c ≡ hex_digit d → c ≡ d
one_digit c d is it e = grind (arith, nat_tests)

no_zero : (c : ℕ) → is_hex c ≡ true → c ≢ 48 → 0 < hex_digit c
no_zero c is other = grind (arith, nat_tests)

first_hex : (c : ℕ) (ds : List ℕ) → list_all is_hex (c ∷ ds) ≡ true → (is_hex c ≡ true) × (list_all is_hex ds ≡ true)
first_hex c ds all = elim (cases_Bool (is_hex c)) [ inl t ↦ (t, rw t at all) | inr f ↦ cc (rw f at all) ]

below : (ds : List ℕ) → list_all is_hex ds ≡ true → AllBelowBase 16 (map hex_digit ds)
below [] all = tt
below (c ∷ ds) all = let parts = first_hex c ds all in (digit_small c parts.0, below ds parts.1)

one_row : (a b : List ℕ) → list_all is_hex a ≡ true → list_all is_hex b ≡ true → map hex_digit a ≡ map hex_digit b → a ≡ b
one_row [] [] ia ib e = refl
one_row [] (d ∷ b) ia ib e = cc e
one_row (c ∷ a) [] ia ib e = cc e
one_row (c ∷ a) (d ∷ b) ia ib e =
    let p = first_hex c a ia in
    let q = first_hex d b ib in
    let first : hex_digit c ≡ hex_digit d = cc e in
    let rest : map hex_digit a ≡ map hex_digit b = cc e in
    let head = one_digit c d p.0 q.0 first in
    let tail = one_row a b p.1 q.1 rest in
    cc (head, tail)

-- as many digits of one value are the same
pub same_digits : (a b : List ℕ) → list_all is_hex a ≡ true → list_all is_hex b ≡ true → length a ≡ length b → hex_value a ≡ hex_value b → a ≡ b
same_digits a b ia ib long e =
    let there = digits_in-number 16 (map hex_digit a) (omega arith) (below a ia) in
    let here = digits_in-number 16 (map hex_digit b) (omega arith) (below b ib) in
    let counts : length (map hex_digit a) ≡ length (map hex_digit b) = length-map a hex_digit ∙ long ∙ sym (length-map b hex_digit) in
    one_row a b ia ib (sym there ∙ ap (λ k. digits_in 16 k (hex_value a)) counts ∙ ap (digits_in 16 (length (map hex_digit b))) e ∙ here)

pub value_low : (ds : List ℕ) → list_all is_hex ds ≡ true → hex_value ds < 16 ^ length ds
value_low ds all = subst (λ k. hex_value ds < 16 ^ k) (length-map ds hex_digit) (number_lt 16 (map hex_digit ds) (below ds all))

value_high : (c : ℕ) (ds : List ℕ) → 0 < hex_digit c → 16 ^ length ds ≤ hex_value (c ∷ ds)
value_high c ds some =
    let split = number_after-split 16 (0 * 16 + hex_digit c) (map hex_digit ds) in
    let power : 16 ^ length (map hex_digit ds) ≡ 16 ^ length ds = ap (λ k. 16 ^ k) (length-map ds hex_digit) in
    let more : 1 * 16 ^ length ds ≤ (0 * 16 + hex_digit c) * 16 ^ length ds = mul-le-mul_right (16 ^ length ds) (omega (arith, some)) in
    omega (arith, split, power, more, ap (λ p. (0 * 16 + hex_digit c) * p) power)

not_less : (m n : ℕ) → (m < n → ⊥) → n ≤ m
not_less m n none = elim (cases_lt m n) [ inl less ↦ absurd (none less) | inr le ↦ le ]

-- fewer digits without leading zeros are those of a smaller number
fewer : (a b : List ℕ) → IsHexNumber a → IsHexNumber b → hex_value a ≡ hex_value b → length a < length b → ⊥
fewer a [] ia ib e less = omega (arith, less)
fewer a (c ∷ ds) ia ib e less =
    let parts = first_hex c ds ib.0 in
    let some : c ≢ 48 = elim ib.2 [ inl other ↦ other | inr one ↦ absurd (omega (arith, one, less, ia.1)) ] in
    let power : 16 ^ length a ≤ 16 ^ length ds = pow-le-pow_right (omega arith) {i = length a} {j = length ds} (omega (arith, less)) in
    omega (arith, value_low a ia.0, value_high c ds (no_zero c parts.0 some), power, e)

-- a number has one spelling
pub one_spelling : (n : ℕ) (a b : List ℕ) → IsHexOf n a → IsHexOf n b → a ≡ b
one_spelling n a b ia ib =
    let e : hex_value a ≡ hex_value b = ia.1 ∙ sym ib.1 in
    let le : length a ≤ length b = not_less (length b) (length a) (fewer b a ib.0 ia.0 (sym e)) in
    let ge : length b ≤ length a = not_less (length a) (length b) (fewer a b ia.0 ib.0 e) in
    same_digits a b ia.0.0 ib.0.0 (omega (arith, le, ge)) e

-- it is spelled by the digits that are printed for it
pub printed : (n : ℕ) (ds : List ℕ) → n < 2 ^ 64 → IsHexOf n ds → ds ≡ digits 16 false n
printed n ds few is = one_spelling n ds (digits 16 false n) is (hex_is n few)
