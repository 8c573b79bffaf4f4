-- A number has one spelling in hexadecimal digits.
use Rattle.std.proofs.Common.{◌≡◌, ◌≢◌, ℕ, ◌+◌, ◌*◌, ◌^◌, ◌<◌, ◌≤◌, inl, inr, List, [], ◌∷◌, length, map, true, false, refl, sym, ap, ◌∙◌, subst, arith}
use Rattle.std.specs.Prelude.{◌==◌, bytes_eq}
use Rattle.std.specs.Cmp.Lexicographic.{bytes_decides}
use Rattle.std.specs.List.{list_all}
use Rattle.std.specs.Fmt.{digits, digit_glyph}
use Rattle.std.specs.Int.Digits.{AllBelowBase}
use Rattle.std.proofs.lemmas.Bool.{and_parts, cases_lt, cases_Bool, eqb-true}
use Rattle.std.proofs.lemmas.Bool.Decides.{nat_tests, Decides-eqb}
use Rattle.std.proofs.lemmas.Int.Digits.{number_lt}
use Rattle.std.proofs.lemmas.List.{length-map}
use Rattle.std.proofs.Math.Nat.{pow-le-pow_right, mul-le-mul_left}
use Rattle.lists.specs.KeriSpecs.Base64.{digits_in}
use Rattle.lists.specs.KeriSpecs.Hex.{is_hex, hex_digit, hex_value, IsHexOf}
use Rattle.lists.proofs.KeriSpecsLemmas.Digits.{digits_in-number, number_after-split}
use Rattle.sith.proofs.Numerals.{hex_is}

digit_small : (c : ℕ) → is_hex c ≡ true → hex_digit c < 16
digit_small c h = grind (arith, nat_tests)

digit_some : (c : ℕ) → is_hex c ≡ true → c ≢ 48 → 0 < hex_digit c
digit_some c h n = grind (arith, nat_tests)

glyph_of : (c : ℕ) → is_hex c ≡ true → digit_glyph false (hex_digit c) ≡ c
glyph_of c h = grind (arith, nat_tests)

-- the digits are digits in base 16, and what they are printed as
all_below : (ds : List ℕ) → list_all is_hex ds ≡ true → AllBelowBase 16 (map hex_digit ds)
all_below [] h = tt
all_below (c ∷ cs) h = let parts = and_parts (is_hex c) (list_all is_hex cs) h in (digit_small c parts.0, all_below cs parts.1)

printed_back : (ds : List ℕ) → list_all is_hex ds ≡ true → map (digit_glyph false) (map hex_digit ds) ≡ ds
printed_back [] h = refl
printed_back (c ∷ cs) h =
    let parts = and_parts (is_hex c) (list_all is_hex cs) h in
    let first = glyph_of c parts.0 in
    let rest = printed_back cs parts.1 in
    rw (first, rest) refl

-- how great a number of so many digits is
most : (n : ℕ) (ds : List ℕ) → IsHexOf n ds → n < 16 ^ length ds
most n ds is =
    let low = number_lt 16 (map hex_digit ds) (all_below ds is.0.0) in
    let count : length (map hex_digit ds) ≡ length ds = length-map ds hex_digit in
    let low' : hex_value ds < 16 ^ length ds = rw count at low in
    omega (arith, low', is.1)

least : (n c : ℕ) (cs : List ℕ) → IsHexOf n (c ∷ cs) → 0 < length cs → 16 ^ length cs ≤ n
least n c cs is some =
    let parts = and_parts (is_hex c) (list_all is_hex cs) is.0.0 in
    let first : 0 < hex_digit c = digit_some c parts.0 (elim is.0.2 as (λ _. c ≢ 48) [ inl other ↦ other | inr one ↦ absurd (omega (arith, one, some)) ]) in
    let value = number_after-split 16 (0 * 16 + hex_digit c) (map hex_digit cs) in
    let count : length (map hex_digit cs) ≡ length cs = length-map cs hex_digit in
    let value' : hex_value (c ∷ cs) ≡ (0 * 16 + hex_digit c) * 16 ^ length cs + hex_value cs = rw count at value in
    times (hex_digit c) (16 ^ length cs) (hex_value cs) n first (sym value' ∙ is.1)
  where
    times : (d p v n : ℕ) → 0 < d → (0 * 16 + d) * p + v ≡ n → p ≤ n
    times d p v n some e = let one : 1 ≤ d = some in omega (arith, mul-le-mul_left p one, e)

not_shorter : (n : ℕ) (ds es : List ℕ) → IsHexOf n ds → IsHexOf n es → length ds < length es → ⊥
not_shorter n ds [] a b h = omega (arith, h)
not_shorter n ds (c ∷ cs) a b h =
    let few : length ds ≤ length cs = omega (arith, h) in
    let power : 16 ^ length ds ≤ 16 ^ length cs = pow-le-pow_right (omega arith) few in
    omega (arith, most n ds a, least n c cs b (omega (arith, few, a.0.1)), power)

same_length : (n : ℕ) (ds es : List ℕ) → IsHexOf n ds → IsHexOf n es → length ds ≡ length es
same_length n ds es a b = elim (cases_lt (length ds) (length es)) [
  | inl h ↦ absurd (not_shorter n ds es a b h)
  | inr h ↦ elim (cases_lt (length es) (length ds)) [
    | inl k ↦ absurd (not_shorter n es ds b a k)
    | inr k ↦ omega (arith, h, k)
  ]
]

digits_are : (n : ℕ) (ds : List ℕ) → IsHexOf n ds → digits_in 16 (length ds) n ≡ map hex_digit ds
digits_are n ds is =
    let count : length (map hex_digit ds) ≡ length ds = length-map ds hex_digit in
    let e = digits_in-number 16 (map hex_digit ds) (omega arith) (all_below ds is.0.0) in
    ap (λ k. digits_in 16 k n) (sym count) ∙ ap (digits_in 16 (length (map hex_digit ds))) (sym is.1) ∙ e

one_spelling : (n : ℕ) (ds es : List ℕ) → IsHexOf n ds → IsHexOf n es → ds ≡ es
one_spelling n ds es a b =
    let values : map hex_digit ds ≡ map hex_digit es = sym (digits_are n ds a) ∙ ap (λ k. digits_in 16 k n) (same_length n ds es a b) ∙ digits_are n es b in
    sym (printed_back ds a.0.0) ∙ ap (map (digit_glyph false)) values ∙ printed_back es b.0.0

-- what spells a number is what is printed for it
pub spelled_is_printed : (n : ℕ) (ds : List ℕ) → IsHexOf n ds → n < 2 ^ 64 → ds ≡ digits 16 false n
spelled_is_printed n ds is small = one_spelling n ds (digits 16 false n) is (hex_is n small)

-- a number below 2^64 has at most 16 digits
pub few_digits : (n : ℕ) (ds : List ℕ) → IsHexOf n ds → n < 2 ^ 64 → length ds ≤ 16
few_digits n [] is small = omega arith
few_digits n (c ∷ cs) is small = elim (cases_lt (length cs) 16) [
  | inl h ↦ omega (arith, h)
  | inr h ↦
      let power : 16 ^ 16 ≤ 16 ^ length cs = pow-le-pow_right (omega arith) h in
      absurd (omega (arith, least n c cs is (omega (arith, h)), power, small))
]

-- what is printed for a number spells it
pub printed_spells : (n : ℕ) (ds : List ℕ) → n < 2 ^ 64 → ds ≡ digits 16 false n → IsHexOf n ds
printed_spells n ds small e = subst (IsHexOf n) (sym e) (hex_is n small)

-- a text's number is a number exactly where the text is what is printed for it
pub number-test : (text : List ℕ) (found n : ℕ) → found < 2 ^ 64 → n < 2 ^ 64 → text ≡ digits 16 false found → (found == n) ≡ bytes_eq text (digits 16 false n)
number-test text found n few small e = elim (cases_Bool (found == n)) [
  | inl t ↦ (let same : found ≡ n = eqb-true found n t in t ∙ sym ((bytes_decides text (digits 16 false n)).1 (e ∙ ap (digits 16 false) same)))
  | inr f ↦ f ∙ sym (not_the_text f)
]
  where
    not_the_text : (found == n) ≡ false → bytes_eq text (digits 16 false n) ≡ false
    not_the_text f = elim (cases_Bool (bytes_eq text (digits 16 false n))) [
      | inl t ↦
          (let one = printed_spells found text few e in
          let other = printed_spells n text small ((bytes_decides text (digits 16 false n)).0 t) in
          let same : found ≡ n = sym one.1 ∙ other.1 in
          cc ((Decides-eqb found n).1 same, f))
      | inr g ↦ g
    ]

pub number-other : (text : List ℕ) (n : ℕ) → n < 2 ^ 64 → ((m : ℕ) → m < 2 ^ 64 → text ≢ digits 16 false m) → false ≡ bytes_eq text (digits 16 false n)
number-other text n small none = elim (cases_Bool (bytes_eq text (digits 16 false n))) [
  | inl t ↦ absurd (none n small ((bytes_decides text (digits 16 false n)).0 t))
  | inr f ↦ sym f
]
