-- Texts of numbers and weights are strings: they have no quote, no escape and nothing beyond ASCII.
use Rattle.std.proofs.Common.{◌≡◌, ℕ, zero, suc, ◌^◌, ◌<◌, ◌≤◌, ◌&&◌, ◌||◌, Bool, true, List, [], ◌∷◌, ◌++◌, codes, nat_le, nat_lt, refl, ap, arith, inl, inr}
use Rattle.std.proofs.lemmas.Bool.{cases_Bool}
use Rattle.std.proofs.lemmas.Bool.Decides.{nat_tests}
use Rattle.std.proofs.lemmas.Fmt.{decimal_is_IsNumeral}
use Rattle.std.proofs.lemmas.List.Folds.{list_all-append}
use Rattle.std.proofs.lemmas.Str.{IsUtf8-from_ascii}
use Rattle.std.proofs.lemmas.Str.Parse.{digit_from_value}
use Rattle.std.specs.Fmt.{decimal}
use Rattle.std.specs.List.{list_all}
use Rattle.std.specs.Str.{IsAscii}
use Rattle.std.specs.Str.Parse.{AllDigits}
use Rattle.lists.specs.KeriSpecs.Hex.{is_hex, IsHexNumber}
use Rattle.json_tree.specs.Strings.{IsUnescaped, unescaped, AreChars, IsString}
use Rattle.sith.specs.declared.weight.Weight.{Weight}
use Rattle.sith.specs.declared.weight.Weight.TheVariants.{Zero, One, Part}
use Rattle.sith.specs.OwnValues.{IsTypedWeight}
use Rattle.sith.specs.Thresholds.{weight_text}

-- what stands in a string as it is
abbrev pub is_plain : ℕ → Bool
is_plain c = nat_le 35 c && (nat_lt c 92 || (nat_lt 92 c && nat_lt c 128))

plain_is : (c : ℕ) → is_plain c ≡ true → IsUnescaped c × (c < 128)
plain_is c plain = grind arith

plain_chars : (text : List ℕ) → list_all is_plain text ≡ true → AreChars text
plain_chars [] all = record { chars = []; each = tt; whole = refl }
plain_chars (c ∷ text) all = elim (cases_Bool (is_plain c)) [
  | inl t ↦
      let rest = plain_chars text (rw t at all) in
      record { chars = (c ∷ []) ∷ rest.chars; each = (unescaped c (plain_is c t).0 refl, rest.each); whole = ap (λ l. c ∷ l) rest.whole }
  | inr f ↦ cc (rw f at all)
]

plain_ascii : (text : List ℕ) → list_all is_plain text ≡ true → IsAscii text
plain_ascii [] all i = omega arith
plain_ascii (c ∷ text) all zero = elim (cases_Bool (is_plain c)) [ inl t ↦ (plain_is c t).1 | inr f ↦ cc (rw f at all) ]
plain_ascii (c ∷ text) all (suc i) = elim (cases_Bool (is_plain c)) [ inl t ↦ plain_ascii text (rw t at all) i | inr f ↦ cc (rw f at all) ]

pub plain_string : (text : List ℕ) → list_all is_plain text ≡ true → IsString text
plain_string text all = record { chars = plain_chars text all; utf8 = IsUtf8-from_ascii text (plain_ascii text all) }

-- where each that passes one test passes the other
pub all_pass : (p q : ℕ → Bool) → ((c : ℕ) → p c ≡ true → q c ≡ true) → (text : List ℕ) → list_all p text ≡ true → list_all q text ≡ true
all_pass p q also [] all = refl
all_pass p q also (c ∷ text) all = elim (cases_Bool (p c)) [
  | inl t ↦ rw (also c t) (all_pass p q also text (rw t at all))
  | inr f ↦ cc (rw f at all)
]

hex_plain : (c : ℕ) → is_hex c ≡ true → is_plain c ≡ true
hex_plain c is = grind arith

pub number_string : (digits : List ℕ) → IsHexNumber digits → IsString digits
number_string digits is = plain_string digits (all_pass is_hex is_plain hex_plain digits is.0)

digit_plain : (c : ℕ) → (48 ≤ c) × (c ≤ 57) → is_plain c ≡ true
digit_plain c is = grind (arith, nat_tests)

digits_plain : (text : List ℕ) → AllDigits 10 text → list_all is_plain text ≡ true
digits_plain [] all = refl
digits_plain (c ∷ text) all = rw (digit_plain c (digit_from_value c all.0)) (digits_plain text all.1)

decimal_plain : (n : ℕ) → n < 2 ^ 64 → list_all is_plain (decimal n) ≡ true
decimal_plain n few = digits_plain (decimal n) (decimal_is_IsNumeral n few).0.1

pub weight_string : (weight : Weight) → IsTypedWeight weight → IsString (weight_text weight)
weight_string Zero held = plain_string (codes "0") refl
weight_string One held = plain_string (codes "1") refl
weight_string (Part n d) held =
    plain_string (decimal n ++ 47 ∷ decimal d) (rw (list_all-append is_plain (decimal n) (47 ∷ decimal d), decimal_plain n (omega (arith, held.0)), decimal_plain d (omega (arith, held.1))) refl)
