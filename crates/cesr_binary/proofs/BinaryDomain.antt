-- Bytes as characters, and characters as bytes.
use Rattle.std.proofs.Common.{◌≡◌, ℕ, ◌+◌, ◌-◌, ◌*◌, ◌/◌, ◌%◌, ◌^◌, ◌<◌, ◌≤◌, true, List, [], ◌∷◌, ◌++◌, length, slice_index, refl, sym, ap, ◌∙◌}
use Rattle.std.proofs.Common.{arith, append_assoc, length-append}
use Rattle.std.specs.List.{list_all}
use Rattle.std.proofs.lemmas.Bool.Decides.{nat_tests}
use Rattle.lists.specs.KeriSpecs.Base64.{base64_text, digits_in, digit_of, is_character, number_of_text, whole_number}
use Rattle.lists.proofs.KeriSpecsLemmas.Digits.{number-digits_in, length-digits_in}
use Rattle.cesr_codes.proofs.Numbers.{characters-drop, character-digit, character_at, text-number, text_low, length-base64_text}
use Rattle.cesr_binary.specs.BinaryDomain.{text_of, binary_of, is_binary}

-- behind whole threes the bytes are turned as they are alone
pub text_of-append : (x y : List ℕ) (q : ℕ) → length x ≡ 3 * q → text_of (x ++ y) ≡ text_of x ++ text_of y
unfolding text_of
text_of-append [] y q e = refl
text_of-append (a ∷ []) y q e = absurd (omega (arith, e))
text_of-append (a ∷ b ∷ []) y q e = absurd (omega (arith, e))
text_of-append (a ∷ b ∷ c ∷ x) y q e =
    let four : List ℕ = base64_text 4 (whole_number (a ∷ b ∷ c ∷ [])) in
    ap (λ t. four ++ t) (text_of-append x y (q - 1) (omega (arith, e))) ∙ sym (append_assoc four (text_of x) (text_of y))

-- whatever follows bytes, their characters stand at the front
pub text_of-more : (x y : List ℕ) → (more : List ℕ) × (text_of (x ++ y) ≡ text_of x ++ more)
unfolding text_of
text_of-more [] y = (text_of y, refl)
text_of-more (a ∷ []) y = (text_of (a ∷ y), refl)
text_of-more (a ∷ b ∷ []) y = (text_of (a ∷ b ∷ y), refl)
text_of-more (a ∷ b ∷ c ∷ x) y =
    let four : List ℕ = base64_text 4 (whole_number (a ∷ b ∷ c ∷ [])) in
    let rest = text_of-more x y in
    (rest.0, ap (λ t. four ++ t) rest.1 ∙ sym (append_assoc four (text_of x) rest.0))

pub length-text_of : (x : List ℕ) → length (text_of x) ≡ 4 * (length x / 3)
unfolding text_of
length-text_of [] = refl
length-text_of (a ∷ []) = refl
length-text_of (a ∷ b ∷ []) = refl
length-text_of (a ∷ b ∷ c ∷ x) =
    let n : ℕ = whole_number (a ∷ b ∷ c ∷ []) in
    omega (arith, length-append (base64_text 4 n) (text_of x), length-base64_text 4 n, length-text_of x)

pub length-binary_of : (t : List ℕ) → length (binary_of t) ≡ 3 * (length t / 4)
unfolding binary_of
length-binary_of [] = refl
length-binary_of (a ∷ []) = refl
length-binary_of (a ∷ b ∷ []) = refl
length-binary_of (a ∷ b ∷ c ∷ []) = refl
length-binary_of (a ∷ b ∷ c ∷ d ∷ t) =
    let n : ℕ = number_of_text (a ∷ b ∷ c ∷ d ∷ []) in
    omega (arith, length-append (digits_in 256 3 n) (binary_of t), length-digits_in 256 3 n, length-binary_of t)

-- three bytes that are the digits of a number are the characters of that number
text_of_three : (n : ℕ) → n < 256 ^ 3 → text_of (digits_in 256 3 n) ≡ base64_text 4 n
unfolding text_of digits_in
text_of_three n low = ap (base64_text 4) (number-digits_in 256 3 n (omega arith) low)

-- the first four of characters are characters
pub first_four : (a b c d : ℕ) (t : List ℕ) → list_all is_character (a ∷ b ∷ c ∷ d ∷ t) ≡ true → list_all is_character (a ∷ b ∷ c ∷ d ∷ []) ≡ true
first_four a b c d t all = grind (
  arith,
  character_at (a ∷ b ∷ c ∷ d ∷ t) 0 all (omega arith),
  character_at (a ∷ b ∷ c ∷ d ∷ t) 1 all (omega arith),
  character_at
      (a ∷ b ∷ c ∷ d ∷ t) 2 all (omega arith),
  character_at (a ∷ b ∷ c ∷ d ∷ t) 3 all (omega arith),
)

-- four characters are three bytes, and these are the four characters
text_of_four : (a b c d : ℕ) → list_all is_character (a ∷ b ∷ c ∷ d ∷ []) ≡ true
    → text_of (digits_in 256 3 (number_of_text (a ∷ b ∷ c ∷ d ∷ []))) ≡ a ∷ b ∷ c ∷ d ∷ []
text_of_four a b c d all = text_of_three (number_of_text (a ∷ b ∷ c ∷ d ∷ [])) (text_low (a ∷ b ∷ c ∷ d ∷ []) all) ∙ text-number (a ∷ b ∷ c ∷ d ∷ []) all

-- characters in fours are what their bytes are turned to
pub text_of-binary_of : (t : List ℕ) (q : ℕ) → length t ≡ 4 * q → list_all is_character t ≡ true → text_of (binary_of t) ≡ t
unfolding binary_of text_of
text_of-binary_of [] q e all = refl
text_of-binary_of (a ∷ []) q e all = absurd (omega (arith, e))
text_of-binary_of (a ∷ b ∷ []) q e all = absurd (omega (arith, e))
text_of-binary_of (a ∷ b ∷ c ∷ []) q e all = absurd (omega (arith, e))
text_of-binary_of (a ∷ b ∷ c ∷ d ∷ t) q e all =
    let four : List ℕ = a ∷ b ∷ c ∷ d ∷ [] in
    let n : ℕ = number_of_text four in
    text_of-append (digits_in 256 3 n) (binary_of t) 1 (length-digits_in 256 3 n)
    ∙ ap (λ x. x ++ text_of (binary_of t)) (text_of_four a b c d (first_four a b c d t all))
    ∙ ap (λ x. four ++ x) (text_of-binary_of t (q - 1) (omega (arith, e)) (characters-drop 4 (a ∷ b ∷ c ∷ d ∷ t) all))

-- a text that begins with a dash is binary that begins with one
pub binary_dash : (t : List ℕ) → 4 ≤ length t → slice_index t 0 ≡ 45 → list_all is_character t ≡ true → is_binary (slice_index (binary_of t) 0) ≡ true
unfolding binary_of digits_in
binary_dash [] le e all = absurd (omega (arith, le))
binary_dash (a ∷ []) le e all = absurd (omega (arith, le))
binary_dash (a ∷ b ∷ []) le e all = absurd (omega (arith, le))
binary_dash (a ∷ b ∷ c ∷ []) le e all = absurd (omega (arith, le))
binary_dash (a ∷ b ∷ c ∷ d ∷ t) le e all =
    let x : ℕ = digit_of a in
    let is : x ≡ 62 = ap digit_of e in
    let lb = (character-digit b (character_at (a ∷ b ∷ c ∷ d ∷ t) 1 all (omega arith))).1 in
    let lc = (character-digit c (character_at (a ∷ b ∷ c ∷ d ∷ t) 2 all (omega arith))).1 in
    let ld = (character-digit d (character_at (a ∷ b ∷ c ∷ d ∷ t) 3 all (omega arith))).1 in
    let n : ℕ = number_of_text (a ∷ b ∷ c ∷ d ∷ []) in
    let value : n ≡ 62 * 262144 + digit_of b * 4096 + digit_of c * 64 + digit_of d = omega (arith, is) in
    let low : 248 ≤ n / 256 / 256 % 256 = omega (arith, value, lb, lc, ld) in
    let high : n / 256 / 256 % 256 ≤ 251 = omega (arith, value, lb, lc, ld) in
    grind (arith, nat_tests, low, high)
