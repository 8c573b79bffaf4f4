-- Lengths and their 8 digits.
use Rattle.std.proofs.Common.{◌≡◌, ℕ, ◌/◌, ◌%◌, ◌^◌, ◌<◌, ◌≤◌, true, List, [], ◌∷◌, length, map, refl, sym, ap, ◌∙◌, arith}
use Rattle.std.specs.List.{list_all}
use Rattle.std.specs.Int.Digits.{AllBelowBase, number_from_digits}
use Rattle.std.proofs.lemmas.Bool.{and_parts}
use Rattle.std.proofs.lemmas.Bool.Decides.{nat_tests}
use Rattle.std.proofs.lemmas.List.{length-map}
use Rattle.lists.specs.KeriSpecs.Base64.{digits_in}
use Rattle.lists.specs.KeriSpecs.Hex.{is_hex, hex_digit, hex_value}
use Rattle.lists.proofs.KeriSpecsLemmas.Digits.{digits_in-number, length-digits_in, number-digits_in, all_below-digits_in}
use Rattle.verifier_link.specs.Questions.{hex_character, length_text}

digits_are : (n : ℕ) → n < 2 ^ 16 → digits_in 16 8 n ≡ 0 ∷ 0 ∷ 0 ∷ 0 ∷ n / 4096 ∷ n / 256 % 16 ∷ n / 16 % 16 ∷ n % 16 ∷ []
unfolding digits_in
digits_are n small =
    let a : n / 16 / 16 / 16 / 16 / 16 / 16 / 16 % 16 ≡ 0 = omega arith in
    let b : n / 16 / 16 / 16 / 16 / 16 / 16 % 16 ≡ 0 = omega arith in
    let c : n / 16 / 16 / 16 / 16 / 16 % 16 ≡ 0 = omega arith in
    let d : n / 16 / 16 / 16 / 16 % 16 ≡ 0 = omega arith in
    let e : n / 16 / 16 / 16 % 16 ≡ n / 4096 = omega arith in
    let f : n / 16 / 16 % 16 ≡ n / 256 % 16 = omega arith in
    rw (a, b, c, d, e, f) refl

-- the digits of a length of 16 bits
pub length_text-digits : (n : ℕ) → n < 2 ^ 16 → length_text n ≡ 48 ∷ 48 ∷ 48 ∷ 48 ∷ hex_character (n / 4096) ∷ hex_character (n / 256 % 16) ∷ hex_character (n / 16 % 16) ∷ hex_character (n % 16) ∷ []
length_text-digits n small = ap (map hex_character) (digits_are n small)

digit_small : (c : ℕ) → is_hex c ≡ true → hex_digit c < 16
digit_small c h = grind (arith, nat_tests)

character_back : (c : ℕ) → is_hex c ≡ true → hex_character (hex_digit c) ≡ c
character_back c h = grind (arith, nat_tests)

digit_back : (d : ℕ) → d < 16 → hex_digit (hex_character d) ≡ d
digit_back d h = grind (arith, nat_tests)

character_hex : (d : ℕ) → d < 16 → is_hex (hex_character d) ≡ true
character_hex d h = grind (arith, nat_tests)

all_below : (ds : List ℕ) → list_all is_hex ds ≡ true → AllBelowBase 16 (map hex_digit ds)
all_below [] h = tt
all_below (c ∷ cs) h = let parts = and_parts (is_hex c) (list_all is_hex cs) h in (digit_small c parts.0, all_below cs parts.1)

characters_back : (ds : List ℕ) → list_all is_hex ds ≡ true → map hex_character (map hex_digit ds) ≡ ds
characters_back [] h = refl
characters_back (c ∷ cs) h =
    let parts = and_parts (is_hex c) (list_all is_hex cs) h in
    let first = character_back c parts.0 in
    let rest = characters_back cs parts.1 in
    rw (first, rest) refl

digits_back : (ds : List ℕ) → AllBelowBase 16 ds → map hex_digit (map hex_character ds) ≡ ds
digits_back [] h = refl
digits_back (d ∷ ds) h =
    let first = digit_back d h.0 in
    let rest = digits_back ds h.1 in
    rw (first, rest) refl

all_hex : (ds : List ℕ) → AllBelowBase 16 ds → list_all is_hex (map hex_character ds) ≡ true
all_hex [] h = refl
all_hex (d ∷ ds) h =
    let first = character_hex d h.0 in
    let rest = all_hex ds h.1 in
    rw (first, rest) refl

-- 8 digits write their number
pub length_text-value : (ds : List ℕ) → list_all is_hex ds ≡ true → length ds ≡ 8 → ds ≡ length_text (hex_value ds)
length_text-value ds all eight =
    let count : length (map hex_digit ds) ≡ 8 = length-map ds hex_digit ∙ eight in
    sym (characters_back ds all) ∙ ap (map hex_character) (sym (digits_in-number 16 (map hex_digit ds) (omega arith) (all_below ds all)) ∙ ap (λ k. digits_in 16 k (hex_value ds)) count)

-- what writes a number is digits, of this number
pub all_hex-length_text : (n : ℕ) → list_all is_hex (length_text n) ≡ true
all_hex-length_text n = all_hex (digits_in 16 8 n) (all_below-digits_in 16 8 n (omega arith))

pub value-length_text : (n : ℕ) → n < 16 ^ 8 → hex_value (length_text n) ≡ n
value-length_text n small =
    ap (number_from_digits 16) (digits_back (digits_in 16 8 n) (all_below-digits_in 16 8 n (omega arith))) ∙ number-digits_in 16 8 n (omega arith) small

pub length-length_text : (n : ℕ) → length (length_text n) ≡ 8
length-length_text n = length-map (digits_in 16 8 n) hex_character ∙ length-digits_in 16 8 n

-- a length is written in one way
pub same_length : (n m : ℕ) → n ≤ 65535 → m ≤ 65535 → length_text n ≡ length_text m → n ≡ m
same_length n m few less e = sym (value-length_text n (omega arith)) ∙ ap hex_value e ∙ value-length_text m (omega arith)
