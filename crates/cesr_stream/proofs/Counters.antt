-- A counter that is read at the front.
use Rattle.std.proofs.Common.{◌≡◌, ℕ, ◌≤◌, ◌<◌, not, nat_lt, if◌then◌else◌, Bool, true, false, List, [], ◌∷◌, length, take, slice_index, refl, sym, ap, ◌∙◌, arith, ◌==◌, ◌≢◌}
use Rattle.std.specs.List.{list_all}
use Rattle.std.proofs.lemmas.Bool.{eqb-true, false_from_ne_true}
use Rattle.lists.specs.KeriSpecs.Base64.{base64_text, is_character}
use Rattle.cesr_codes.proofs.Numbers.{text-number, text_low}
use Rattle.cesr_codes.specs.declared.code_fault.CodeFault.TheVariants.{BadCharacter}
use Rattle.cesr_stream.specs.declared.bad.BadReason.TheVariants.{GroupNotSupported, Code}
use Rattle.cesr_stream.specs.Parts.{whole, refused, unfinished}
use Rattle.cesr_stream.specs.Front.{counter_part, count_of, is_group}

-- a whole counter is supported, and its count has characters
pub counter_characters : (supported : Bool) (bytes : List ℕ) (n : ℕ) → counter_part supported bytes ≡ whole n
    → (supported ≡ true) × (is_character (slice_index bytes 2) ≡ true) × (is_character (slice_index bytes 3) ≡ true)
unfolding counter_part
counter_characters supported bytes n e = at (nat_lt (length bytes) 2) supported (nat_lt (length bytes) 4) (is_character (slice_index bytes 2)) (is_character (slice_index bytes 3)) e
  where
    at : (few letter part one two : Bool)
        → (if few then unfinished else if not letter then refused 0 GroupNotSupported else if part then unfinished else if not one then refused 0 (Code (BadCharacter 2)) else if not two then refused 0 (Code (BadCharacter 3)) else whole 4) ≡ whole n
        → (letter ≡ true) × (one ≡ true) × (two ≡ true)
    at true letter part one two e = cc e
    at false false part one two e = cc e
    at false true true one two e = cc e
    at false true false false two e = cc e
    at false true false true false e = cc e
    at false true false true true e = (refl, refl, refl)

pub supported_whole : (supported : Bool) (bytes : List ℕ) (n : ℕ) → counter_part supported bytes ≡ whole n → supported ≡ true
supported_whole supported bytes n e = (counter_characters supported bytes n e).0

-- a whole counter is spelled by its letter and its count
pub counter_text : (supported : Bool) (bytes : List ℕ) → slice_index bytes 0 ≡ 45 → counter_part supported bytes ≡ whole 4 → 4 ≤ length bytes
    → take 4 bytes ≡ 45 ∷ slice_index bytes 1 ∷ base64_text 2 (count_of bytes)
counter_text supported [] dash is long = absurd (omega arith)
counter_text supported (a ∷ []) dash is long = absurd (omega arith)
counter_text supported (a ∷ b ∷ []) dash is long = absurd (omega arith)
counter_text supported (a ∷ b ∷ c ∷ []) dash is long = absurd (omega arith)
counter_text supported (a ∷ b ∷ c ∷ d ∷ bytes) dash is long =
    let parts = counter_characters supported (a ∷ b ∷ c ∷ d ∷ bytes) 4 is in
    let all : list_all is_character (c ∷ d ∷ []) ≡ true = rw (parts.1, parts.2) refl in
    ap (λ x. x ∷ b ∷ c ∷ d ∷ []) dash ∙ ap (λ count. 45 ∷ b ∷ count) (sym (text-number (c ∷ d ∷ []) all))

-- and counts fewer than 64 times 64
pub count_low : (supported : Bool) (bytes : List ℕ) → counter_part supported bytes ≡ whole 4 → 4 ≤ length bytes → count_of bytes < 4096
count_low supported [] is long = absurd (omega arith)
count_low supported (a ∷ []) is long = absurd (omega arith)
count_low supported (a ∷ b ∷ []) is long = absurd (omega arith)
count_low supported (a ∷ b ∷ c ∷ []) is long = absurd (omega arith)
count_low supported (a ∷ b ∷ c ∷ d ∷ bytes) is long =
    let parts = counter_characters supported (a ∷ b ∷ c ∷ d ∷ bytes) 4 is in
    let all : list_all is_character (c ∷ d ∷ []) ≡ true = rw (parts.1, parts.2) refl in
    text_low (c ∷ d ∷ []) all

-- the one letter that is left
pub anchor_letter : (letter : ℕ) → is_group letter ≡ true → letter ≢ 65 → letter ≢ 66 → letter ≢ 67 → letter ≢ 69 → letter ≡ 71
anchor_letter letter e a b c d = eqb-true letter 71 (rw (other 65 a, other 66 b, other 67 c, other 69 d) at e)
  where
    other : (n : ℕ) → letter ≢ n → (letter == n) ≡ false
    other n ne = false_from_ne_true (letter == n) (λ e. ne (eqb-true letter n e))
