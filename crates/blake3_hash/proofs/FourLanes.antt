-- Vectors of four lanes.
use Rattle.std.proofs.Common.{◌≡◌, ℕ, zero, suc, ◌<◌, ◌-◌, ◌*◌, ◌/◌, ◌%◌, ◌^◌, List, [], ◌∷◌, ◌++◌, length, slice_index, slice_index_or, bit_or, bit_xor, arith, refl}
use Rattle.std.specs.Simd.Lanes.{pick_l, zip2}
use Rattle.std.specs.Int.{w32, rotate_right}

-- what holds of each of the four lanes
pub below_four : (P : ℕ → Type 0) → P 0 → P 1 → P 2 → P 3 → (j : ℕ) → j < 4 → P j
below_four P p0 p1 p2 p3 zero h = p0
below_four P p0 p1 p2 p3 (suc zero) h = p1
below_four P p0 p1 p2 p3 (suc (suc zero)) h = p2
below_four P p0 p1 p2 p3 (suc (suc (suc zero))) h = p3
below_four P p0 p1 p2 p3 (suc (suc (suc (suc n)))) h = absurd (omega arith)

-- four elements of a list
abbrev pub four : List (List ℕ) → ℕ → ℕ → ℕ → ℕ → List (List ℕ)
four v p q r s = slice_index_or v p [] ∷ slice_index_or v q [] ∷ slice_index_or v r [] ∷ slice_index_or v s [] ∷ []

-- what holds of each of eight
pub below_eight : (P : ℕ → Type 0) → P 0 → P 1 → P 2 → P 3 → P 4 → P 5 → P 6 → P 7 → (j : ℕ) → j < 8 → P j
below_eight P p0 p1 p2 p3 p4 p5 p6 p7 zero h = p0
below_eight P p0 p1 p2 p3 p4 p5 p6 p7 (suc zero) h = p1
below_eight P p0 p1 p2 p3 p4 p5 p6 p7 (suc (suc zero)) h = p2
below_eight P p0 p1 p2 p3 p4 p5 p6 p7 (suc (suc (suc zero))) h = p3
below_eight P p0 p1 p2 p3 p4 p5 p6 p7 (suc (suc (suc (suc zero)))) h = p4
below_eight P p0 p1 p2 p3 p4 p5 p6 p7 (suc (suc (suc (suc (suc zero))))) h = p5
below_eight P p0 p1 p2 p3 p4 p5 p6 p7 (suc (suc (suc (suc (suc (suc zero)))))) h = p6
below_eight P p0 p1 p2 p3 p4 p5 p6 p7 (suc (suc (suc (suc (suc (suc (suc zero))))))) h = p7
below_eight P p0 p1 p2 p3 p4 p5 p6 p7 (suc (suc (suc (suc (suc (suc (suc (suc n)))))))) h = absurd (omega arith)

-- what holds of each list of four elements
four_lanes : (P : List ℕ → Type 0) → ((a b c d : ℕ) → P (a ∷ b ∷ c ∷ d ∷ [])) → (xs : List ℕ) → length xs ≡ 4 → P xs
four_lanes P p (a ∷ b ∷ c ∷ d ∷ []) h = p a b c d
four_lanes P p [] h = absurd (omega arith)
four_lanes P p (a ∷ []) h = absurd (omega arith)
four_lanes P p (a ∷ b ∷ []) h = absurd (omega arith)
four_lanes P p (a ∷ b ∷ c ∷ []) h = absurd (omega arith)
four_lanes P p (a ∷ b ∷ c ∷ d ∷ e ∷ xs) h = absurd (omega arith)

-- two shifts of each lane and an or are a rotation
abbrev Rotates : ℕ → List ℕ → List ℕ → Type 0
Rotates k a b = (j : ℕ) → j < 4
    → slice_index (zip2 bit_or
    (zip2 (λ x n. x / 2 ^ n) (zip2 bit_xor a b) (k ∷ k ∷ k ∷ k ∷ []))
    (zip2 (λ x n. x * 2 ^ n % 2 ^ 32) (zip2 bit_xor a b) ((32 - k) ∷ (32 - k) ∷ (32 - k) ∷ (32 - k) ∷ []))) j
    ≡ rotate_right w32 (bit_xor (slice_index a j) (slice_index b j)) k

pub shifts_rotate : (k : ℕ) → 0 < k → k < 32 → (a : List ℕ) → length a ≡ 4 → (b : List ℕ) → length b ≡ 4 → Rotates k a b
shifts_rotate k low high =
    let right : k % 32 ≡ k = omega arith in
    let left : (32 - k) % 32 ≡ 32 - k = omega arith in
    four_lanes (λ a. (b : List ℕ) → length b ≡ 4 → Rotates k a b) (λ a0 a1 a2 a3.
    four_lanes (Rotates k (a0 ∷ a1 ∷ a2 ∷ a3 ∷ [])) (λ b0 b1 b2 b3.
    below_four _ (rw (right, left) refl) (rw (right, left) refl) (rw (right, left) refl) (rw (right, left) refl)))

-- four rows of four, by columns, as two steps of `interleave` make them
abbrev low_of : List ℕ → List ℕ → List ℕ
low_of a b = pick_l 0 (a ++ b) (0 ∷ 4 ∷ 1 ∷ 5 ∷ [])

abbrev high_of : List ℕ → List ℕ → List ℕ
high_of a b = pick_l 0 (a ++ b) (2 ∷ 6 ∷ 3 ∷ 7 ∷ [])

abbrev Transposes : List ℕ → List ℕ → List ℕ → List ℕ → Type 0
Transposes a b c d = (k : ℕ) → k < 4 → slice_index_or (
    low_of (low_of a c) (low_of b d) ∷ high_of (low_of a c) (low_of b d) ∷ low_of (high_of a c) (high_of b d) ∷ high_of (high_of a c) (high_of b d) ∷ []) k []
    ≡ slice_index a k ∷ slice_index b k ∷ slice_index c k ∷ slice_index d k ∷ []

pub transposes : (a : List ℕ) → length a ≡ 4 → (b : List ℕ) → length b ≡ 4 → (c : List ℕ) → length c ≡ 4 → (d : List ℕ) → length d ≡ 4 → Transposes a b c d
transposes =
    four_lanes (λ a. (b : List ℕ) → length b ≡ 4 → (c : List ℕ) → length c ≡ 4 → (d : List ℕ) → length d ≡ 4 → Transposes a b c d) (λ a0 a1 a2 a3.
    four_lanes (λ b. (c : List ℕ) → length c ≡ 4 → (d : List ℕ) → length d ≡ 4 → Transposes (a0 ∷ a1 ∷ a2 ∷ a3 ∷ []) b c d) (λ b0 b1 b2 b3.
    four_lanes (λ c. (d : List ℕ) → length d ≡ 4 → Transposes (a0 ∷ a1 ∷ a2 ∷ a3 ∷ []) (b0 ∷ b1 ∷ b2 ∷ b3 ∷ []) c d) (λ c0 c1 c2 c3.
    four_lanes (Transposes (a0 ∷ a1 ∷ a2 ∷ a3 ∷ []) (b0 ∷ b1 ∷ b2 ∷ b3 ∷ []) (c0 ∷ c1 ∷ c2 ∷ c3 ∷ [])) (λ d0 d1 d2 d3.
    below_four _ refl refl refl refl))))
