-- The digits that are printed for a number.
use Rattle.std.proofs.Common.{◌≡◌, ◌≢◌, ℕ, zero, suc, ◌+◌, ◌*◌, ◌/◌, ◌%◌, ◌^◌, ◌<◌, inl, inr, List, [], ◌∷◌, ◌++◌, length, map, get_or, true, false, Bool, refl, sym, ap, subst, ◌∙◌, arith, append_assoc, append-nil, length-append}
use Rattle.std.specs.Prelude.{◌==◌, if◌then◌else◌}
use Rattle.std.specs.List.{list_all}
use Rattle.std.specs.Fmt.{digits, digits_onto, digit_glyph}
use Rattle.std.specs.Int.Digits.{number_from_digits}
use Rattle.std.proofs.lemmas.Int.Digits.{number_push}
use Rattle.std.proofs.lemmas.List.{map-append}
use Rattle.std.proofs.lemmas.Bool.Decides.{nat_tests}
use Rattle.std.proofs.lemmas.Bool.{cases_Bool, eqb-true}
use native.Mathlib.Nat.{mod-lt, div-add-mod, pow-suc, pow-zero}
use Rattle.lists.specs.KeriSpecs.Hex.{is_hex, hex_digit, hex_value, IsHexOf}

glyph_hex : (d : ℕ) → d < 16 → is_hex (digit_glyph false d) ≡ true
glyph_hex d small = grind (arith, nat_tests)

glyph_value : (d : ℕ) → d < 16 → hex_digit (digit_glyph false d) ≡ d
glyph_value d small = grind (arith, nat_tests)

hex_all_push : (ds : List ℕ) (c : ℕ) → list_all is_hex ds ≡ true → is_hex c ≡ true → list_all is_hex (ds ++ c ∷ []) ≡ true
hex_all_push [] c all here = rw here refl
hex_all_push (d ∷ ds) c all here = elim (cases_Bool (is_hex d)) [
  | inl t ↦ rw t (hex_all_push ds c (rw t at all) here)
  | inr f ↦ cc (rw f at all)
]

hex_value_push : (ds : List ℕ) (c : ℕ) → hex_value (ds ++ c ∷ []) ≡ hex_value ds * 16 + hex_digit c
hex_value_push ds c = ap (number_from_digits 16) (map-append hex_digit ds (c ∷ [])) ∙ number_push 16 (map hex_digit ds) (hex_digit c)

-- the first digit of a number that is not 0
first_some : (m : ℕ) (ds : List ℕ) → IsHexOf m ds → 0 < m → get_or ds 0 0 ≢ 48
first_some m [] is some e = omega (arith, is.0.1)
first_some m (c ∷ []) is some e =
    let zero_value : hex_digit c ≡ 0 = ap hex_digit e in
    omega (arith, is.1, some, zero_value)
first_some m (c ∷ d ∷ ds) is some e = elim is.0.2 [ inl other ↦ other e | inr one ↦ omega (arith, one) ]

first_push : (ds : List ℕ) (c : ℕ) → 0 < length ds → get_or (ds ++ c ∷ []) 0 0 ≡ get_or ds 0 0
first_push [] c some = absurd (omega (arith, some))
first_push (d ∷ ds) c some = refl

hex_more : (n m d : ℕ) (ds : List ℕ) → IsHexOf m ds → 0 < m → d < 16 → m * 16 + d ≡ n → IsHexOf n (ds ++ digit_glyph false d ∷ [])
hex_more n m d ds is some small whole = (
  (
    hex_all_push ds (digit_glyph false d) is.0.0 (glyph_hex d small),
    omega (arith, length-append ds (digit_glyph false d ∷ [])),
    inl (λ e. first_some m ds is some (sym (first_push ds (digit_glyph false d) is.0.1) ∙ e)),
  ),
  hex_value_push ds (digit_glyph false d) ∙ omega (arith, is.1, glyph_value d small, whole),
)

hex_one : (d : ℕ) → d < 16 → IsHexOf d (digit_glyph false d ∷ [])
hex_one d small = ((rw (glyph_hex d small) refl, omega arith, inr refl), omega (arith, glyph_value d small))

abbrev SpelledBefore : ℕ → List ℕ → List ℕ → Type 0
SpelledBefore n acc digits = (ds : List ℕ) × (digits ≡ ds ++ acc) × IsHexOf n ds

by_test : (b : Bool) (n k : ℕ) (acc : List ℕ) → (n / 16 == 0) ≡ b → n < 16 ^ (suc k) → ((m : ℕ) (acc : List ℕ) → m < 16 ^ k → 0 < m → SpelledBefore m acc (digits_onto k 16 false m acc)) → SpelledBefore n acc (if b then digit_glyph false (n % 16) ∷ acc else digits_onto k 16 false (n / 16) (digit_glyph false (n % 16) ∷ acc))
by_test true n k acc test few further =
    let zero_part = eqb-true (n / 16) 0 test in
    let same : n % 16 ≡ n = omega (arith, div-add-mod n 16, zero_part) in
    (digit_glyph false (n % 16) ∷ [], refl, subst (λ m. IsHexOf m (digit_glyph false (n % 16) ∷ [])) same (hex_one (n % 16) (mod-lt n (omega arith))))
by_test false n k acc test few further =
    let some : 0 < n / 16 = grind (arith, nat_tests, test) in
    let rest = further (n / 16) (digit_glyph false (n % 16) ∷ acc) (omega (arith, few, pow-suc 16 k, div-add-mod n 16)) some in (
      rest.0 ++ digit_glyph false (n % 16) ∷ [],
      rest.1 ∙ sym (append_assoc rest.0 (digit_glyph false (n % 16) ∷ []) acc),
      hex_more n (n / 16) (n % 16) rest.0 rest.2 some (mod-lt n (omega arith)) (omega (arith, div-add-mod n 16)),
    )

hex_onto : (k n : ℕ) (acc : List ℕ) → n < 16 ^ k → 0 < k → SpelledBefore n acc (digits_onto k 16 false n acc)
hex_onto zero n acc few some = absurd (omega (arith, some))
hex_onto (suc zero) n acc few some = by_test (n / 16 == 0) n 0 acc refl few (λ m acc less more. absurd (omega (arith, less, more, pow-zero 16)))
hex_onto (suc (suc k)) n acc few some = by_test (n / 16 == 0) n (suc k) acc refl few (λ m acc less more. hex_onto (suc k) m acc less (omega arith))

-- a number is spelled by the digits that are printed for it
pub hex_is : (n : ℕ) → n < 2 ^ 64 → IsHexOf n (digits 16 false n)
unfolding digits
hex_is n few =
    let all = hex_onto 64 n [] (omega (arith, few)) (omega arith) in
    subst (IsHexOf n) (sym (all.1 ∙ append-nil all.0)) all.2
