-- The characters of bytes with places replaced.
use Rattle.std.proofs.Common.{◌≡◌, ℕ, zero, suc, ◌+◌, ◌-◌, ◌<◌, ◌≤◌, List, [], ◌∷◌, ◌++◌, length, take, drop, get_or, All, Contains, arith, refl, ◌∙◌, ap, length-drop}
use Rattle.std.proofs.Math.Seq.{take-add}
use Rattle.std.proofs.lemmas.List.{get_or-replicate, length-replicate, get_or-append_right, get_or_append_left, get_or-take, get_or-drop, length-take-le}
use Rattle.std.proofs.lemmas.Grind.{common_steps, same_number_lists}
use Rattle.said_digest.specs.Replaced.{placeholder, with_placeholder, replaced, LieIn}

length-placeholder : length placeholder ≡ 44
unfolding placeholder
length-placeholder = length-replicate {A = ℕ} 44 35

get_or-placeholder : (i : ℕ) → i < 44 → get_or placeholder i 0 ≡ 35
unfolding placeholder
get_or-placeholder i inside = get_or-replicate 44 i 35 0 inside

-- a placeholder changes no length
length-with_placeholder : (place : ℕ) (bytes : List ℕ) → place + 44 ≤ length bytes → length (with_placeholder place bytes) ≡ length bytes
unfolding with_placeholder
length-with_placeholder place bytes inside = grind (arith, common_steps, length-placeholder)

-- the character at i stands in it
at-inside : (place i : ℕ) (bytes : List ℕ) → place + 44 ≤ length bytes → place ≤ i → i < place + 44 → get_or (with_placeholder place bytes) i 0 ≡ 35
unfolding with_placeholder
at-inside place i bytes inside from to =
    let rest : List ℕ = drop (place + 44) bytes in
    let front = length-take-le place bytes (omega arith) in
    get_or-append_right (take place bytes) (placeholder ++ rest) place i 0 front from
    ∙ (get_or_append_left placeholder rest 0 (i - place) (omega (arith, length-placeholder)) ∙ get_or-placeholder (i - place) (omega arith))

-- the character at i stands before it
at-before : (place i : ℕ) (bytes : List ℕ) → place + 44 ≤ length bytes → i < place → get_or (with_placeholder place bytes) i 0 ≡ get_or bytes i 0
unfolding with_placeholder
at-before place i bytes inside before = grind (arith, common_steps)

-- the character at i stands behind it
at-behind : (place i : ℕ) (bytes : List ℕ) → place + 44 ≤ length bytes → place + 44 ≤ i → get_or (with_placeholder place bytes) i 0 ≡ get_or bytes i 0
unfolding with_placeholder
at-behind place i bytes inside behind =
    let rest : List ℕ = drop (place + 44) bytes in
    let front = length-take-le place bytes (omega arith) in
    get_or-append_right (take place bytes) (placeholder ++ rest) place i 0 front (omega arith)
    ∙ (get_or-append_right placeholder rest 44 (i - place) 0 length-placeholder (omega arith)
    ∙ (get_or-drop (place + 44) bytes (i - place - 44) 0 ∙ ap (λ k. get_or bytes k 0) (omega arith)))

-- the places behind the first one lie in the bytes
others : (bytes places : List ℕ) (first : ℕ) → LieIn bytes (first ∷ places) → LieIn bytes places
others bytes places first inside k d below = inside (suc k) d (omega arith)

-- placeholders change no length
pub length-replaced : (bytes places : List ℕ) → LieIn bytes places → length (replaced bytes places) ≡ length bytes
unfolding replaced
length-replaced bytes [] inside = refl
length-replaced bytes (first ∷ places) inside =
    let rest = length-replaced bytes places (others bytes places first inside) in
    length-with_placeholder first (replaced bytes places) (omega (arith, inside 0 0 (omega arith), rest)) ∙ rest

-- the first place lies in the bytes with the others replaced
fits : (bytes places : List ℕ) (first : ℕ) → LieIn bytes (first ∷ places) → first + 44 ≤ length (replaced bytes places)
fits bytes places first inside =
    omega (arith, inside 0 0 (omega arith), length-replaced bytes places (others bytes places first inside))

-- each of the 44 characters at a place is `#`
pub at-a-place : (bytes places : List ℕ) (place i : ℕ) → LieIn bytes places → Contains places place → place ≤ i → i < place + 44
    → get_or (replaced bytes places) i 0 ≡ 35
unfolding replaced
at-a-place bytes [] place i inside (k, below, is) from to = absurd (omega (arith, below))
at-a-place bytes (first ∷ places) place i inside (zero, below, is) from to =
    at-inside first i (replaced bytes places) (fits bytes places first inside) (omega (arith, is)) (omega (arith, is))
at-a-place bytes (first ∷ places) place i inside (suc k, below, is) from to =
    let rest : List ℕ = replaced bytes places in
    let room = fits bytes places first inside in
    let there = at-a-place bytes places place i (others bytes places first inside) (k, omega arith, is) from to in
    grind (arith, at-inside first i rest room, at-before first i rest room, at-behind first i rest room, there)

-- any other character stays
pub elsewhere : (bytes places : List ℕ) (i : ℕ) → LieIn bytes places → All (λ place. place ≤ i → place + 44 ≤ i) places
    → get_or (replaced bytes places) i 0 ≡ get_or bytes i 0
unfolding replaced
elsewhere bytes [] i inside apart = refl
elsewhere bytes (first ∷ places) i inside apart =
    let rest : List ℕ = replaced bytes places in
    let room = fits bytes places first inside in
    let same = elsewhere bytes places i (others bytes places first inside) (λ k d below. apart (suc k) d (omega arith)) in
    grind (arith, apart 0 0 (omega arith), at-before first i rest room, at-behind first i rest room, same)

-- a piece that agrees with the bytes at each of its characters comes next in them
pub next_piece : (bytes piece : List ℕ) (at : ℕ) → at + length piece ≤ length bytes
    → ((k : ℕ) → k < length piece → get_or bytes (at + k) 0 ≡ get_or piece k 0)
    → take (at + length piece) bytes ≡ take at bytes ++ piece
next_piece bytes piece at within agree =
    let n : ℕ = length piece in
    let rest : List ℕ = drop at bytes in
    let long : length (take n rest) ≡ n = length-take-le n rest (omega (arith, length-drop at bytes)) in
    let same : take n rest ≡ piece = same_number_lists (take n rest) piece long
    (λ k below. get_or-take n rest k 0 (omega (arith, long)) ∙ (get_or-drop at bytes k 0 ∙ agree k (omega (arith, long)))) in
    take-add at n bytes ∙ ap (λ found. take at bytes ++ found) same
