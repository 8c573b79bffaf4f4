-- How a primitive at the front is judged stays the same, whatever follows.
use Rattle.std.proofs.Common.{◌≡◌, ◌≢◌, ℕ, zero, suc, ◌+◌, ◌^◌, ◌<◌, ◌≤◌, ◌&&◌, ◌%◌, ◌==◌, not, nat_lt, nat_le, if◌then◌else◌, Bool, true, false, List, [], ◌∷◌, ◌++◌, length, take, drop, refl, sym, ap, ◌∙◌, arith, inl, inr, length-append, find, position, Option, None, Some, option_map, bytes_eq}
use Rattle.std.specs.List.{list_all}
use Rattle.std.proofs.lemmas.Bool.{eqb-true, leb-true, cases_Bool, le-ltb, ltb-false, ltb-true, lt-ltb, false_from_ne_true}
use Rattle.std.proofs.lemmas.List.{take-append-le, take_all}
use Rattle.std.proofs.lemmas.Slice.Eq.{bytes_eq-Decides}
use Rattle.lists.specs.KeriSpecs.Base64.{is_character, number_of_text}
use Rattle.cesr_codes.specs.declared.code_fault.CodeFault.TheVariants.{PadBits, OtherIndex}
use Rattle.cesr_codes.specs.Table.{Layout, good, short, bad, verdict, layout_verdict, whole_verdict, is_within_code, has_code, has_other_index, total}
use Rattle.cesr_stream.specs.Front.{shown}

-- a text that is a beginning of a list is one of what follows too
front_of : (x y code : List ℕ) (n : ℕ) → length x ≤ n → take n (x ++ y) ≡ code → x ≡ take (length x) code
front_of x y code n le e =
    sym (ap (take (length x)) (sym e) ∙ take_less x y n le)
  where
    take_less : (x y : List ℕ) (n : ℕ) → length x ≤ n → take (length x) (take n (x ++ y)) ≡ x
    take_less [] y n le = refl
    take_less (a ∷ x) y zero le = absurd (omega arith)
    take_less (a ∷ x) y (suc n) le = ap (λ z. a ∷ z) (take_less x y n (omega arith))

begins : (x y : List ℕ) (n : ℕ) (code : List ℕ) → length x ≤ n → x ++ y ≡ take n code → x ≡ take (length x) code
begins [] y n code le e = refl
begins (a ∷ x) y zero code le e = absurd (omega arith)
begins (a ∷ x) y (suc n) [] le e = cc e
begins (a ∷ x) y (suc n) (c ∷ code) le e = cc (begins x y n code (omega arith) (cc e), e)

module _ (x y : List ℕ) (l : Layout) (apart : (nat_lt (length x) (length l.code) && bytes_eq x (take (length x) l.code)) ≡ false) where
  -- a text that is shorter than the code isn't its beginning
  no_front : length x < length l.code → x ≡ take (length x) l.code → ⊥
  no_front lt e = cc (rw (lt-ltb (length x) (length l.code) lt, (bytes_eq-Decides x (take (length x) l.code)).1 e) at apart)

  pub code_same : has_code (x ++ y) l ≡ has_code x l
  code_same = elim (cases_Bool (nat_lt (length x) (length l.code))) [
    | inl t ↦
        let lt : length x < length l.code = ltb-true (length x) (length l.code) t in
        false_from_ne_true (has_code (x ++ y) l) (λ e. no_front lt (front_of x y l.code (length l.code) (omega arith) ((bytes_eq-Decides (take (length l.code) (x ++ y)) l.code).0 e)))
        ∙ sym (false_from_ne_true (has_code x l) (λ e.
        let all : x ≡ l.code = sym (take_all (length l.code) x (omega arith)) ∙ (bytes_eq-Decides (take (length l.code) x) l.code).0 e in
        omega (arith, lt, ap length all)))
    | inr f ↦ rw (take-append-le (length l.code) x y (ltb-false (length x) (length l.code) f)) refl
  ]

  pub apart_more : (nat_lt (length (x ++ y)) (length l.code) && bytes_eq (x ++ y) (take (length (x ++ y)) l.code)) ≡ false
  apart_more = elim (cases_Bool (nat_lt (length (x ++ y)) (length l.code))) [
    | inl t ↦
        let lt : length (x ++ y) < length l.code = ltb-true (length (x ++ y)) (length l.code) t in
        rw (
          t,
          false_from_ne_true (bytes_eq (x ++ y) (take (length (x ++ y)) l.code)) (λ e.
              let whole : x ++ y ≡ take (length (x ++ y)) l.code = (bytes_eq-Decides (x ++ y) (take (length (x ++ y)) l.code)).0 e in
              no_front (omega (arith, lt, length-append x y)) (begins x y (length (x ++ y)) l.code (omega (arith, length-append x y)) whole)),
        ) refl
    | inr f ↦ rw f refl
  ]

-- the same for a whole table
pub within_same : (x y : List ℕ) (layouts : List Layout) → is_within_code layouts x ≡ false → is_within_code layouts (x ++ y) ≡ false
within_same x y [] apart = refl
within_same x y (l ∷ layouts) apart = elim (cases_Bool (nat_lt (length x) (length l.code) && bytes_eq x (take (length x) l.code))) [
  | inl t ↦ cc (rw t at apart)
  | inr f ↦ rw (apart_more x y l f) (within_same x y layouts (rw f at apart))
]

pub find_same : (x y : List ℕ) (layouts : List Layout) → is_within_code layouts x ≡ false → find (has_code (x ++ y)) layouts ≡ find (has_code x) layouts
find_same x y [] apart = refl
find_same x y (l ∷ layouts) apart = elim (cases_Bool (nat_lt (length x) (length l.code) && bytes_eq x (take (length x) l.code))) [
  | inl t ↦ cc (rw t at apart)
  | inr f ↦ rw (code_same x y l f) (elim (cases_Bool (has_code x l)) [ inl t ↦ rw t refl | inr g ↦ rw g (find_same x y layouts (rw f at apart)) ])
]

layout_same : (x y : List ℕ) (l : Option Layout) → layout_verdict l x ≢ short → layout_verdict l (x ++ y) ≡ layout_verdict l x
layout_same x y None ne = refl
layout_same x y (Some l) ne = elim (cases_Bool (nat_lt (length x) (total l))) [
  | inl t ↦ absurd (ne (rw t refl))
  | inr f ↦
      rw (f, le-ltb (length (x ++ y)) (total l) (omega (arith, ltb-false (length x) (total l) f, length-append x y)), take-append-le (total l) x y (ltb-false (length x) (total l) f)) refl
]

pub stays-verdict : (layouts : List Layout) (x y : List ℕ) → verdict layouts x ≢ short → verdict layouts (x ++ y) ≡ verdict layouts x
stays-verdict layouts x y ne = elim (cases_Bool (is_within_code layouts x)) [
  | inl t ↦ absurd (ne (rw t refl))
  | inr f ↦ rw (f, within_same x y layouts f, find_same x y layouts f) (layout_same x y (find (has_code x) layouts) (rw f at ne))
]

pub fits-verdict : (layouts : List Layout) (x : List ℕ) (n : ℕ) → verdict layouts x ≡ good n → n ≤ length x
fits-verdict layouts x n e = at (is_within_code layouts x) (find (has_code x) layouts) e
  where
    judged : (l : Layout) (large other : Bool) → (if large then bad PadBits else if other then bad OtherIndex else good (total l)) ≡ good n → total l ≡ n
    judged l true other e = cc e
    judged l false true e = cc e
    judged l false false e = cc e

    chars : (l : Layout) (place : Option ℕ) → whole_verdict l (take (total l) x) place ≡ good n → total l ≡ n
    chars l (Some place) e = cc e
    chars l None e = judged l (nat_le (256 ^ l.bytes) (number_of_text (drop (length l.code + l.index) (take (total l) x)))) (has_other_index l (take (total l) x)) e

    sized : (l : Layout) (few : Bool) → nat_lt (length x) (total l) ≡ few
        → (if few then short else whole_verdict l (take (total l) x) (position (λ c. not (is_character c)) (take (total l) x))) ≡ good n → n ≤ length x
    sized l true is e = cc e
    sized l false is e = let same = chars l (position (λ c. not (is_character c)) (take (total l) x)) e in omega (arith, same, ltb-false (length x) (total l) is)

    layouts_at : (l : Option Layout) → layout_verdict l x ≡ good n → n ≤ length x
    layouts_at None e = cc e
    layouts_at (Some l) e = sized l (nat_lt (length x) (total l)) refl e

    at : (within : Bool) (l : Option Layout) → (if within then short else layout_verdict l x) ≡ good n → n ≤ length x
    at true l e = cc e
    at false l e = layouts_at l e

-- each layout has characters in fours, at most so many, and its code has at most four
abbrev is_sized : ℕ → Layout → Bool
is_sized most l = total l % 4 == 0 && nat_le (total l) most && nat_le (length l.code) 4

abbrev pub are_sized : ℕ → List Layout → Bool
are_sized most layouts = list_all (is_sized most) layouts

sizes_of : (most : ℕ) (l : Layout) → is_sized most l ≡ true → (total l % 4 ≡ 0) × (total l ≤ most) × (length l.code ≤ 4)
sizes_of most l e = elim (cases_Bool (total l % 4 == 0)) [
  | inr f ↦ cc (rw f at e)
  | inl t ↦ elim (cases_Bool (nat_le (total l) most)) [
    | inr f ↦ cc (rw (t, f) at e)
    | inl u ↦ (eqb-true (total l % 4) 0 t, leb-true (total l) most u, leb-true (length l.code) 4 (rw (t, u) at e))
  ]
]

sized-find : (most : ℕ) (x : List ℕ) (layouts : List Layout) (n : ℕ) → are_sized most layouts ≡ true → option_map total (find (has_code x) layouts) ≡ Some n → (n % 4 ≡ 0) × (n ≤ most)
sized-find most x [] n all e = cc e
sized-find most x (l ∷ layouts) n all e = elim (cases_Bool (is_sized most l)) [
  | inr f ↦ cc (rw f at all)
  | inl t ↦ elim (cases_Bool (has_code x l)) [
    | inl h ↦
        let same : Some (total l) ≡ Some n = rw h at e in
        let n_is : total l ≡ n = cc same in
        let sizes = sizes_of most l t in
        (ap (λ k. k % 4) (sym n_is) ∙ sizes.0, omega (arith, n_is, sizes.1))
    | inr g ↦ sized-find most x layouts n (rw t at all) (rw g at e)
  ]
]

-- so many characters as the code shows
pub sized-shown : (most : ℕ) (x : List ℕ) (layouts : List Layout) (n : ℕ) → are_sized most layouts ≡ true → shown layouts x ≡ Some n → (n % 4 ≡ 0) × (n ≤ most)
sized-shown most x layouts n all e = elim (cases_Bool (is_within_code layouts x)) [
  | inl t ↦ cc (rw t at e)
  | inr f ↦ sized-find most x layouts n all (rw f at e)
]

within_few : (most : ℕ) (x : List ℕ) (layouts : List Layout) → are_sized most layouts ≡ true → is_within_code layouts x ≡ true → length x < 4
within_few most x [] all e = cc e
within_few most x (l ∷ layouts) all e = elim (cases_Bool (is_sized most l)) [
  | inr f ↦ cc (rw f at all)
  | inl t ↦ elim (cases_Bool (nat_lt (length x) (length l.code))) [
    | inl u ↦ let code = (sizes_of most l t).2 in omega (arith, ltb-true (length x) (length l.code) u, code)
    | inr f ↦ within_few most x layouts (rw t at all) (rw f at e)
  ]
]

-- fewer characters than the code shows, or than a code has
abbrev pub IsShort : Option ℕ → List ℕ → Type 0
IsShort None x = length x < 4
IsShort (Some n) x = length x < n

pub short-verdict : (most : ℕ) (layouts : List Layout) (x : List ℕ) → are_sized most layouts ≡ true → verdict layouts x ≡ short → IsShort (shown layouts x) x
short-verdict most layouts x all e = elim (cases_Bool (is_within_code layouts x)) [
  | inl t ↦ rw t (within_few most x layouts all t)
  | inr f ↦ rw f (at (find (has_code x) layouts) (rw f at e))
]
  where
    rules : (l : Layout) (large other : Bool) → (if large then bad PadBits else if other then bad OtherIndex else good (total l)) ≡ short → length x < total l
    rules l true other e = cc e
    rules l false true e = cc e
    rules l false false e = cc e

    chars : (l : Layout) (place : Option ℕ) → whole_verdict l (take (total l) x) place ≡ short → length x < total l
    chars l (Some place) e = cc e
    chars l None e = rules l (nat_le (256 ^ l.bytes) (number_of_text (drop (length l.code + l.index) (take (total l) x)))) (has_other_index l (take (total l) x)) e

    sized : (l : Layout) (few : Bool) → nat_lt (length x) (total l) ≡ few
        → (if few then short else whole_verdict l (take (total l) x) (position (λ c. not (is_character c)) (take (total l) x))) ≡ short → length x < total l
    sized l true is e = ltb-true (length x) (total l) is
    sized l false is e = chars l (position (λ c. not (is_character c)) (take (total l) x)) e

    at : (l : Option Layout) → layout_verdict l x ≡ short → IsShort (option_map total l) x
    at None e = cc e
    at (Some l) e = sized l (nat_lt (length x) (total l)) refl e

-- of a good primitive the code shows so many characters
pub shown-good : (layouts : List Layout) (x : List ℕ) (n : ℕ) → verdict layouts x ≡ good n → shown layouts x ≡ Some n
shown-good layouts x n e = at (is_within_code layouts x) (find (has_code x) layouts) e
  where
    judged : (l : Layout) (large other : Bool) → (if large then bad PadBits else if other then bad OtherIndex else good (total l)) ≡ good n → total l ≡ n
    judged l true other e = cc e
    judged l false true e = cc e
    judged l false false e = cc e

    chars : (l : Layout) (place : Option ℕ) → whole_verdict l (take (total l) x) place ≡ good n → total l ≡ n
    chars l (Some place) e = cc e
    chars l None e = judged l (nat_le (256 ^ l.bytes) (number_of_text (drop (length l.code + l.index) (take (total l) x)))) (has_other_index l (take (total l) x)) e

    sized : (l : Layout) (few : Bool)
        → (if few then short else whole_verdict l (take (total l) x) (position (λ c. not (is_character c)) (take (total l) x))) ≡ good n → total l ≡ n
    sized l true e = cc e
    sized l false e = chars l (position (λ c. not (is_character c)) (take (total l) x)) e

    at : (within : Bool) (l : Option Layout) → (if within then short else layout_verdict l x) ≡ good n → (if within then None else option_map total l) ≡ Some n
    at true l e = cc e
    at false None e = cc e
    at false (Some l) e = ap Some (sized l (nat_lt (length x) (total l)) e)
