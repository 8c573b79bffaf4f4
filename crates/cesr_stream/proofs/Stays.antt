-- What is judged of a part stays the same, whatever follows.
use Rattle.std.proofs.Common.{◌≡◌, ◌≢◌, ℕ, ◌+◌, ◌<◌, ◌≤◌, ◌||◌, not, nat_lt, if◌then◌else◌, Bool, true, false, List, ◌++◌, length, take, drop, slice_index, refl, ap, ◌∙◌, arith, inl, inr, length-append, length-drop}
use Rattle.std.proofs.lemmas.Bool.{cases_Bool, le-ltb, ltb-false}
use Rattle.std.proofs.lemmas.List.{take-append-le, drop-append-le, get_or_append_left}
use Rattle.cesr_stream.specs.Parts.{Part, whole, refused, unfinished, shifted, followed_by}
use Rattle.cesr_stream.specs.Front.{body_part, has_version, size_of, counter_part, count_of}
use Rattle.lists.specs.KeriSpecs.Base64.{is_character}
use Rattle.cesr_stream.specs.declared.bad.BadReason.TheVariants.{Version, TooLarge, GroupNotSupported, Code}
use Rattle.cesr_codes.specs.declared.code_fault.CodeFault.TheVariants.{BadCharacter}

-- a judgement that isn't open stays the same, whatever follows
abbrev pub Stays : (List ℕ → Part) → Type 0
Stays part = (x y : List ℕ) → part x ≢ unfinished → part (x ++ y) ≡ part x

-- a whole part is no longer than what is there
abbrev pub Fits : (List ℕ → Part) → Type 0
Fits part = (x : List ℕ) (n : ℕ) → part x ≡ whole n → n ≤ length x

pub longer : (x y : List ℕ) (n : ℕ) → nat_lt (length x) n ≡ false → nat_lt (length (x ++ y)) n ≡ false
longer x y n f = le-ltb (length (x ++ y)) n (omega (arith, ltb-false (length x) n f, length-append x y))

pub enough : (x : List ℕ) (n : ℕ) → nat_lt (length x) n ≡ false → n ≤ length x
enough x n f = ltb-false (length x) n f

-- so many bytes from a place are the same, whatever follows
pub part_same : (x y : List ℕ) (n k : ℕ) → k + n ≤ length x → take n (drop k (x ++ y)) ≡ take n (drop k x)
part_same x y n k le =
    ap (take n) (drop-append-le k x y (omega arith)) ∙ take-append-le n (drop k x) y (omega (arith, length-drop k x))

pub version_same : (x y : List ℕ) → 24 ≤ length x → has_version (x ++ y) ≡ has_version x
version_same x y le = rw (take-append-le 16 x y (omega arith), part_same x y 6 16 (omega arith), part_same x y 2 22 (omega arith)) refl

pub size_same : (x y : List ℕ) → 24 ≤ length x → size_of (x ++ y) ≡ size_of x
size_same x y le = rw (part_same x y 6 16 (omega arith)) refl

-- the rules of a body, where only the last test may change
rules_same : (few wrong large part part' : Bool) (n : ℕ) → (part ≡ false → part' ≡ false)
    → (if few then unfinished else if wrong then refused 0 Version else if large then refused 0 TooLarge else if part then unfinished else whole n) ≢ unfinished
    → (if false then unfinished else if wrong then refused 0 Version else if large then refused 0 TooLarge else if part' then unfinished else whole n)
    ≡ (if few then unfinished else if wrong then refused 0 Version else if large then refused 0 TooLarge else if part then unfinished else whole n)
rules_same true wrong large part part' n keeps ne = absurd (ne refl)
rules_same false true large part part' n keeps ne = refl
rules_same false false true part part' n keeps ne = refl
rules_same false false false true part' n keeps ne = absurd (ne refl)
rules_same false false false false part' n keeps ne = rw (keeps refl) refl

pub stays-body_part : (limit : ℕ) → Stays (body_part limit)
unfolding body_part
stays-body_part limit x y ne = elim (cases_Bool (nat_lt (length x) 24)) [
  | inl t ↦ absurd (ne (rw t refl))
  | inr f ↦ rw (longer x y 24 f, version_same x y (enough x 24 f), size_same x y (enough x 24 f))
      (rules_same (nat_lt (length x) 24) (not (has_version x) || nat_lt (size_of x) 24) (nat_lt limit (size_of x)) (nat_lt (length x) (size_of x)) (nat_lt (length (x ++ y)) (size_of x)) (size_of x)
      (longer x y (size_of x)) ne)
]

pub fits-body_part : (limit : ℕ) → Fits (body_part limit)
unfolding body_part
fits-body_part limit x n e = fits (nat_lt (length x) 24) (not (has_version x) || nat_lt (size_of x) 24) (nat_lt limit (size_of x)) (nat_lt (length x) (size_of x)) refl e
  where
    fits : (few wrong large part : Bool) → nat_lt (length x) (size_of x) ≡ part
        → (if few then unfinished else if wrong then refused 0 Version else if large then refused 0 TooLarge else if part then unfinished else whole (size_of x)) ≡ whole n → n ≤ length x
    fits true wrong large part is e = cc e
    fits false true large part is e = cc e
    fits false false true part is e = cc e
    fits false false false true is e = cc e
    fits false false false false is e = let size : size_of x ≡ n = cc e in omega (arith, size, ltb-false (length x) (size_of x) is)

-- a counter's rules
counter_same : (few other part bad2 bad3 part' : Bool) → (part ≡ false → part' ≡ false)
    → (if few then unfinished else if other then refused 0 GroupNotSupported else if part then unfinished else if bad2 then refused 0 (Code (BadCharacter 2)) else if bad3 then refused 0 (Code (BadCharacter 3)) else whole 4) ≢ unfinished
    → (if false then unfinished else if other then refused 0 GroupNotSupported else if part' then unfinished else if bad2 then refused 0 (Code (BadCharacter 2)) else if bad3 then refused 0 (Code (BadCharacter 3)) else whole 4)
    ≡ (if few then unfinished else if other then refused 0 GroupNotSupported else if part then unfinished else if bad2 then refused 0 (Code (BadCharacter 2)) else if bad3 then refused 0 (Code (BadCharacter 3)) else whole 4)
counter_same true other part bad2 bad3 part' keeps ne = absurd (ne refl)
counter_same false true part bad2 bad3 part' keeps ne = refl
counter_same false false true bad2 bad3 part' keeps ne = absurd (ne refl)
counter_same false false false bad2 bad3 part' keeps ne = rw (keeps refl) refl

pub fits-counter_part : (supported : Bool) → Fits (counter_part supported)
unfolding counter_part
fits-counter_part supported x n e = fits (nat_lt (length x) 2) (not supported) (nat_lt (length x) 4) (not (is_character (slice_index x 2))) (not (is_character (slice_index x 3))) refl e
  where
    fits : (few other part bad2 bad3 : Bool) → nat_lt (length x) 4 ≡ part
        → (if few then unfinished else if other then refused 0 GroupNotSupported else if part then unfinished else if bad2 then refused 0 (Code (BadCharacter 2)) else if bad3 then refused 0 (Code (BadCharacter 3)) else whole 4) ≡ whole n → n ≤ length x
    fits true other part bad2 bad3 is e = cc e
    fits false true part bad2 bad3 is e = cc e
    fits false false true bad2 bad3 is e = cc e
    fits false false false true bad3 is e = cc e
    fits false false false false true is e = cc e
    fits false false false false false is e = let four : 4 ≡ n = cc e in omega (arith, four, ltb-false (length x) 4 is)

-- parts that stay, one behind the other, stay
pub stays-followed_by : (first : List ℕ → Part) (next next' : ℕ → List ℕ → Part) → Stays first → Fits first → (x y : List ℕ)
    → ((n : ℕ) → first x ≡ whole n → next n (drop n x) ≢ unfinished → next' n (drop n x ++ y) ≡ next n (drop n x)) → followed_by (first x) next x ≢ unfinished
    → followed_by (first (x ++ y)) next' (x ++ y) ≡ followed_by (first x) next x
stays-followed_by first next next' stays fits x y same ne = go (first x) refl ne
  where
    go : (part : Part) → first x ≡ part → followed_by part next x ≢ unfinished → followed_by (first (x ++ y)) next' (x ++ y) ≡ followed_by part next x
    go (whole n) is ne =
        ap (λ part. followed_by part next' (x ++ y)) (stays x y (λ e. cc (is, e)) ∙ is)
        ∙ ap (λ rest. shifted n (next' n rest)) (drop-append-le n x y (fits x n is))
        ∙ ap (shifted n) (same n is (λ e. ne (ap (shifted n) e)))
    go (refused place reason) is ne = ap (λ part. followed_by part next' (x ++ y)) (stays x y (λ e. cc (is, e)) ∙ is)
    go unfinished is ne = absurd (ne refl)

pub fits-shifted : (x : List ℕ) (k : ℕ) (part : Part) (n : ℕ) → k ≤ length x → ((m : ℕ) → part ≡ whole m → m ≤ length (drop k x)) → shifted k part ≡ whole n → n ≤ length x
fits-shifted x k (whole m) n le fits e = let sum : k + m ≡ n = cc e in omega (arith, sum, fits m refl, length-drop k x)
fits-shifted x k (refused place reason) n le fits e = cc e
fits-shifted x k unfinished n le fits e = cc e

pub fits-followed_by : (first : List ℕ → Part) (next : ℕ → List ℕ → Part) → Fits first → ((k : ℕ) → Fits (next k)) → Fits (λ x. followed_by (first x) next x)
fits-followed_by first next fits fits' x n e = go (first x) refl e
  where
    go : (part : Part) → first x ≡ part → followed_by part next x ≡ whole n → n ≤ length x
    go (whole k) is e = fits-shifted x k (next k (drop k x)) n (fits x k is) (λ m. fits' k (drop k x) m) e
    go (refused place reason) is e = cc e
    go unfinished is e = cc e

pub byte_same : (x y : List ℕ) (k : ℕ) → k < length x → slice_index (x ++ y) k ≡ slice_index x k
byte_same x y k lt = get_or_append_left x y 0 k lt

-- a whole counter has four bytes
pub whole-counter_part : (supported : Bool) (x : List ℕ) (n : ℕ) → counter_part supported x ≡ whole n → n ≡ 4
unfolding counter_part
whole-counter_part supported x n e = at (nat_lt (length x) 2) (not supported) (nat_lt (length x) 4) (not (is_character (slice_index x 2))) (not (is_character (slice_index x 3))) e
  where
    at : (few other part bad2 bad3 : Bool)
        → (if few then unfinished else if other then refused 0 GroupNotSupported else if part then unfinished else if bad2 then refused 0 (Code (BadCharacter 2)) else if bad3 then refused 0 (Code (BadCharacter 3)) else whole 4) ≡ whole n → n ≡ 4
    at true other part bad2 bad3 e = cc e
    at false true part bad2 bad3 e = cc e
    at false false true bad2 bad3 e = cc e
    at false false false true bad3 e = cc e
    at false false false false true e = cc e
    at false false false false false e = cc e

-- a counter of less than four bytes that is judged has another letter
letter_judged : (few other bad2 bad3 part' bad2' bad3' : Bool)
    → (if few then unfinished else if other then refused 0 GroupNotSupported else if true then unfinished else if bad2 then refused 0 (Code (BadCharacter 2)) else if bad3 then refused 0 (Code (BadCharacter 3)) else whole 4) ≢ unfinished
    → (if false then unfinished else if other then refused 0 GroupNotSupported else if part' then unfinished else if bad2' then refused 0 (Code (BadCharacter 2)) else if bad3' then refused 0 (Code (BadCharacter 3)) else whole 4)
    ≡ (if few then unfinished else if other then refused 0 GroupNotSupported else if true then unfinished else if bad2 then refused 0 (Code (BadCharacter 2)) else if bad3 then refused 0 (Code (BadCharacter 3)) else whole 4)
letter_judged true other bad2 bad3 part' bad2' bad3' ne = absurd (ne refl)
letter_judged false true bad2 bad3 part' bad2' bad3' ne = refl
letter_judged false false bad2 bad3 part' bad2' bad3' ne = absurd (ne refl)

pub stays-counter_part : (supported : Bool) → Stays (counter_part supported)
unfolding counter_part
stays-counter_part supported x y ne = elim (cases_Bool (nat_lt (length x) 2)) [
  | inl t ↦ absurd (ne (rw t refl))
  | inr f ↦ elim (cases_Bool (nat_lt (length x) 4)) [
    | inl short ↦
        rw (longer x y 2 f, short)
        (letter_judged (nat_lt (length x) 2) (not supported) (not (is_character (slice_index x 2))) (not (is_character (slice_index x 3)))
        (nat_lt (length (x ++ y)) 4) (not (is_character (slice_index (x ++ y) 2))) (not (is_character (slice_index (x ++ y) 3))) (rw short at ne))
    | inr long ↦
        rw (longer x y 2 f, byte_same x y 2 (omega (arith, enough x 4 long)), byte_same x y 3 (omega (arith, enough x 4 long)))
        (counter_same (nat_lt (length x) 2) (not supported) (nat_lt (length x) 4) (not (is_character (slice_index x 2))) (not (is_character (slice_index x 3)))
        (nat_lt (length (x ++ y)) 4) (longer x y 4) ne)
  ]
]

-- the letter of a counter that is judged
pub letter_same : (supported : Bool) (x y : List ℕ) → counter_part supported x ≢ unfinished → slice_index (x ++ y) 1 ≡ slice_index x 1
unfolding counter_part
letter_same supported x y ne = elim (cases_Bool (nat_lt (length x) 2)) [
  | inl t ↦ absurd (ne (rw t refl))
  | inr f ↦ byte_same x y 1 (omega (arith, enough x 2 f))
]

-- the count of a whole counter
pub count_same : (x y : List ℕ) → 4 ≤ length x → count_of (x ++ y) ≡ count_of x
count_same x y le = rw (part_same x y 2 2 (omega arith)) refl
