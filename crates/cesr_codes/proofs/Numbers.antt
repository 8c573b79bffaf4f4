-- Characters and the number that they spell fix each other, and so do bytes and theirs.
use Rattle.std.proofs.Common.{◌≡◌, ℕ, zero, suc, ◌+◌, ◌^◌, ◌<◌, ◌≤◌, ◌==◌, ◌&&◌, nat_lt, not, position, None, Bool, true, false, List, [], ◌∷◌, ◌++◌, length, map, drop, replicate, slice_index, refl, sym, ap, ◌∙◌, arith, inl, inr}
use Rattle.std.proofs.lemmas.Bool.{cases_Bool, eqb-true, ltb-false, le-ltb}
use Rattle.std.proofs.lemmas.List.Sums.{prefix_len-le-length}
use Rattle.std.proofs.lemmas.List.{length-map}
use Rattle.std.specs.List.{list_all, list_any, position_or_len}
use Rattle.std.specs.Int.Digits.{AllBelowBase, number_from_digits}
use Rattle.std.proofs.lemmas.Int.Digits.{number_lt}
use Rattle.base64.specs.Tables.{all_below}
use Rattle.base64.proofs.Tables.{all_below_at}
use Rattle.lists.specs.KeriSpecs.Base64.{digits_in, whole_number, AreBytes, characters, character, base64_text, is_character, digit_of, number_of_text}
use Rattle.lists.proofs.KeriSpecsLemmas.Digits.{all_below-digits_in, number-digits_in, digits_in-number, length-digits_in}
use Rattle.cesr_codes.proofs.Groups.{bytes_below}

-- a digit is the digit of its character
digit_test : all_below (λ d. digit_of (character d) == d && is_character (character d)) 64 ≡ true
digit_test = refl

pub digit-character : (d : ℕ) → d < 64 → (digit_of (character d) ≡ d) × (is_character (character d) ≡ true)
digit-character d lt = both (digit_of (character d) == d) (is_character (character d)) refl (all_below_at (λ d. digit_of (character d) == d && is_character (character d)) 64 d digit_test lt)
  where
    both : (a b : Bool) → (digit_of (character d) == d) ≡ a → (a && b) ≡ true → (digit_of (character d) ≡ d) × (b ≡ true)
    both true true is h = (eqb-true _ d is, refl)
    both true false is h = cc h
    both false b is h = cc h

-- a character is that of its digit
at_place : (xs : List ℕ) (c : ℕ) → list_any (λ x. x == c) xs ≡ true → (slice_index xs (position_or_len (λ x. x == c) xs) ≡ c) × (position_or_len (λ x. x == c) xs < length xs)
at_place [] c h = cc h
at_place (x ∷ xs) c h = elim (cases_Bool (x == c)) [
  | inl t ↦ rw t (eqb-true x c t, omega arith)
  | inr f ↦
      let ih = at_place xs c (rw f at h) in
      let next : 1 + position_or_len (λ x. x == c) xs ≡ suc (position_or_len (λ x. x == c) xs) = omega arith in
      rw (f, next) (ih.0, omega (arith, ih.1))
]

pub character-digit : (c : ℕ) → is_character c ≡ true → (character (digit_of c) ≡ c) × (digit_of c < 64)
character-digit c h = at_place characters c h

pub no_place : {X : Type 0} (p : X → Bool) (xs : List X) → position p xs ≡ None → length xs ≡ position_or_len p xs
no_place p xs e = elim (cases_Bool (nat_lt (position_or_len p xs) (length xs))) [
  | inl t ↦ cc (rw t at e)
  | inr f ↦ let le : position_or_len p xs ≤ length xs = prefix_len-le-length (λ x. not (p x)) xs in omega (arith, ltb-false _ _ f)
]

-- where each passes a test, no place fails it, and the other way round
module _ {X : Type 0} (p : X → Bool) where
  all_pass : (xs : List X) → list_all p xs ≡ true → position_or_len (λ x. not (p x)) xs ≡ length xs
  all_pass [] h = refl
  all_pass (x ∷ xs) h = elim (cases_Bool (p x)) [
    | inl t ↦ rw t (omega (arith, all_pass xs (rw t at h)))
    | inr f ↦ cc (rw f at h)
  ]

  pub no_failure : (xs : List X) → list_all p xs ≡ true → position (λ x. not (p x)) xs ≡ None
  no_failure xs h = let none : nat_lt (position_or_len (λ x. not (p x)) xs) (length xs) ≡ false = le-ltb _ _ (omega (arith, all_pass xs h)) in rw none refl

  pass_all : (xs : List X) → position_or_len (λ x. not (p x)) xs ≡ length xs → list_all p xs ≡ true
  pass_all [] e = refl
  pass_all (x ∷ xs) e = elim (cases_Bool (p x)) [
    | inl t ↦ rw t (pass_all xs (omega (arith, rw t at e)))
    | inr f ↦ let none : 0 ≡ suc (length xs) = rw f at e in absurd (omega arith)
  ]

  pub none_fails : (xs : List X) → position (λ x. not (p x)) xs ≡ None → list_all p xs ≡ true
  none_fails xs none = pass_all xs (sym (no_place (λ x. not (p x)) xs none))

digits_back : (ds : List ℕ) → AllBelowBase 64 ds → map digit_of (map character ds) ≡ ds
digits_back [] h = refl
digits_back (d ∷ ds) h = ap (λ x. x ∷ map digit_of (map character ds)) (digit-character d h.0).0 ∙ ap (λ xs. d ∷ xs) (digits_back ds h.1)

-- the number that a text of digits stands for
pub number-text : (count n : ℕ) → n < 64 ^ count → number_of_text (base64_text count n) ≡ n
number-text count n lt = ap (number_from_digits 64) (digits_back (digits_in 64 count n) (all_below-digits_in 64 count n (omega arith))) ∙ number-digits_in 64 count n (omega arith) lt

characters_back : (text : List ℕ) → list_all is_character text ≡ true → (map character (map digit_of text) ≡ text) × AllBelowBase 64 (map digit_of text)
characters_back [] h = (refl, tt)
characters_back (c ∷ text) h = elim (cases_Bool (is_character c)) [
  | inl t ↦
      let here = character-digit c t in
      let rest = characters_back text (rw t at h) in
      (ap (λ x. x ∷ map character (map digit_of text)) here.0 ∙ ap (λ xs. c ∷ xs) rest.0, (here.1, rest.1))
  | inr f ↦ cc (rw f at h)
]

-- characters are the digits of their number
pub text-number : (text : List ℕ) → list_all is_character text ≡ true → base64_text (length text) (number_of_text text) ≡ text
text-number text h =
    let back = characters_back text h in
    ap (λ k. base64_text k (number_of_text text)) (sym (length-map text digit_of)) ∙ ap (map character) (digits_in-number 64 (map digit_of text) (omega arith) back.1) ∙ back.0

pub text_low : (text : List ℕ) → list_all is_character text ≡ true → number_of_text text < 64 ^ length text
text_low text h = rw (length-map text digit_of) at (number_lt 64 (map digit_of text) (characters_back text h).1)

-- `A` is the digit 0
pub number-zero_characters : (k : ℕ) (text : List ℕ) → number_of_text (replicate k 65 ++ text) ≡ number_of_text text
number-zero_characters zero text = refl
number-zero_characters (suc k) text = number-zero_characters k text

pub characters-append : (text more : List ℕ) → list_all is_character text ≡ true → list_all is_character more ≡ true → list_all is_character (text ++ more) ≡ true
characters-append [] more h g = g
characters-append (c ∷ text) more h g = elim (cases_Bool (is_character c)) [
  | inl t ↦ rw t (characters-append text more (rw t at h) g)
  | inr f ↦ cc (rw f at h)
]

-- digits are characters
pub characters-text : (count n : ℕ) → list_all is_character (base64_text count n) ≡ true
characters-text count n = all (digits_in 64 count n) (all_below-digits_in 64 count n (omega arith))
  where
    all : (ds : List ℕ) → AllBelowBase 64 ds → list_all is_character (map character ds) ≡ true
    all [] h = refl
    all (d ∷ ds) h = rw ((digit-character d h.0).1) (all ds h.1)

pub length-base64_text : (count n : ℕ) → length (base64_text count n) ≡ count
length-base64_text count n = length-map (digits_in 64 count n) character ∙ length-digits_in 64 count n

-- two numbers with one text are one
pub same_digits : (count m n : ℕ) → m < 64 ^ count → n < 64 ^ count → base64_text count m ≡ base64_text count n → m ≡ n
same_digits count m n lm ln e = sym (number-text count m lm) ∙ ap number_of_text e ∙ number-text count n ln

-- two lists of as many bytes with one number are one
pub same_bytes : (count : ℕ) (a b : List ℕ) → AreBytes count a → AreBytes count b → whole_number a ≡ whole_number b → a ≡ b
same_bytes count a b ba bb e =
    sym (ap (λ k. digits_in 256 k (whole_number a)) (sym ba.0) ∙ digits_in-number 256 a (omega arith) (bytes_below a ba.1))
    ∙ ap (digits_in 256 count) e
    ∙ (ap (λ k. digits_in 256 k (whole_number b)) (sym bb.0) ∙ digits_in-number 256 b (omega arith) (bytes_below b bb.1))

-- the number of so many bytes
pub bytes_low : (count : ℕ) (a : List ℕ) → AreBytes count a → whole_number a < 256 ^ count
bytes_low count a h = rw h.0 at (number_lt 256 a (bytes_below a h.1))

pub characters-drop : (n : ℕ) (text : List ℕ) → list_all is_character text ≡ true → list_all is_character (drop n text) ≡ true
characters-drop zero text h = h
characters-drop (suc n) [] h = refl
characters-drop (suc n) (c ∷ text) h = elim (cases_Bool (is_character c)) [
  | inl t ↦ characters-drop n text (rw t at h)
  | inr f ↦ cc (rw f at h)
]

pub character_at : (xs : List ℕ) (i : ℕ) → list_all is_character xs ≡ true → i < length xs → is_character (slice_index xs i) ≡ true
character_at [] i h lt = absurd (omega arith)
character_at (c ∷ xs) zero h lt = elim (cases_Bool (is_character c)) [ inl t ↦ t | inr f ↦ cc (rw f at h) ]
character_at (c ∷ xs) (suc i) h lt = elim (cases_Bool (is_character c)) [
  | inl t ↦ character_at xs i (rw t at h) (omega arith)
  | inr f ↦ cc (rw f at h)
]
