-- Words of four bytes each, whose bytes are turned round.
use Rattle.std.proofs.Common.{◌≡◌, ◌∙◌, ℕ, ◌+◌, ◌<◌, ◌*◌, ◌/◌, ◌%◌, ◌^◌, List, [], ◌∷◌, length, get_or, lit<, refl, subst, sym, arith, w8}
use Rattle.std.specs.Int.{w32, rotate_right}
use Rattle.std.specs.Simd.Lanes.{Each1, chunk, digits_l, number_l}
use Rattle.std.proofs.lemmas.Nat.{mod_below}
use Rattle.std.proofs.lemmas.Simd.{Each1-get_or, get_or_narrower, get_or_wider, swz_l}
use Rattle.std.specs.Int.Bits.{or_shifted_r}
use Rattle.blake3_hash.specs.Lanes.{right_16, right_8}
use Rattle.blake3_hash.proofs.FourLanes.{below_four}

-- a word turned right by half, and by a quarter, as its bytes
by_16 : (n : ℕ) → n < 2 ^ 32 → number_l 256 (n / 256 ^ 2 % 256 ∷ n / 256 ^ 3 % 256 ∷ n / 256 ^ 0 % 256 ∷ n / 256 ^ 1 % 256 ∷ []) ≡ rotate_right w32 n 16
by_16 n low =
    let up : n * 2 ^ 16 % 2 ^ 32 ≡ n % 2 ^ 16 * 2 ^ 16 = omega arith in
    rw (up, or_shifted_r (n % 2 ^ 16) 16 (n / 2 ^ 16) (omega arith)) (omega arith)

by_8 : (n : ℕ) → n < 2 ^ 32 → number_l 256 (n / 256 ^ 1 % 256 ∷ n / 256 ^ 2 % 256 ∷ n / 256 ^ 3 % 256 ∷ n / 256 ^ 0 % 256 ∷ []) ≡ rotate_right w32 n 8
by_8 n low =
    let up : n * 2 ^ 24 % 2 ^ 32 ≡ n % 2 ^ 8 * 2 ^ 24 = omega arith in
    rw (up, or_shifted_r (n % 2 ^ 8) 24 (n / 2 ^ 8) (omega arith)) (omega arith)

-- the bytes of four words
abbrev pub bytes_of : List ℕ → List ℕ
bytes_of x = digits_l 256 16 (number_l 4294967296 x)

-- byte i of word j
abbrev part : List ℕ → ℕ → ℕ → ℕ
part x j i = get_or x j 0 / 256 ^ i % 256

byte : (x : List ℕ) → Each1 (λ n. n < 4294967296) x → (j i : ℕ) → j < 4 → i < 4 → get_or (bytes_of x) (4 * j + i) 0 ≡ part x j i
byte x fits j i low h = get_or_narrower 4294967296 4 256 16 x j i refl fits h (omega arith)

-- the bytes at sixteen positions, put together to words again
abbrev turned : List ℕ → List ℕ → List ℕ
turned x ks = digits_l 4294967296 4 (number_l 256 (swz_l w8 16 (bytes_of x) 0 ks))

-- word j of them, where its positions are those of the word's bytes p q r s
lane : (x ks : List ℕ) (j p q r s : ℕ) → Each1 (λ n. n < 4294967296) x → Each1 (λ n. n < 256) (swz_l w8 16 (bytes_of x) 0 ks)
    → j < 4 → p < 4 → q < 4 → r < 4 → s < 4
    → chunk (4 * j) 4 (swz_l w8 16 (bytes_of x) 0 ks)
    ≡ get_or (bytes_of x) (4 * j + p) 0 ∷ get_or (bytes_of x) (4 * j + q) 0 ∷ get_or (bytes_of x) (4 * j + r) 0 ∷ get_or (bytes_of x) (4 * j + s) 0 ∷ []
    → get_or (turned x ks) j 0 ≡ number_l 256 (part x j p ∷ part x j q ∷ part x j r ∷ part x j s ∷ [])
lane x ks j p q r s fits small low hp hq hr hs is =
    get_or_wider 256 4 4294967296 4 (swz_l w8 16 (bytes_of x) 0 ks) j refl small low
    ∙ rw (is, byte x fits j p low hp, byte x fits j q low hq, byte x fits j r low hr, byte x fits j s low hs) refl

low : (n : ℕ) → n % 256 < 256
low n = mod_below n 256 (omega arith)

module _ (x : List ℕ) (long : length x ≡ 4) (fits : Each1 (λ n. n < 4294967296) x) where
  word : (j : ℕ) → j < 4 → get_or x j 0 < 4294967296
  word j h = Each1-get_or (λ n. n < 4294967296) x j 0 (omega arith) fits

  pub turns_16 : (ks : List ℕ) → ks ≡ right_16 → (j : ℕ) → j < 4 → get_or (turned x ks) j 0 ≡ rotate_right w32 (get_or x j 0) 16
  turns_16 ks is =
      let small : Each1 (λ n. n < 256) (swz_l w8 16 (bytes_of x) 0 right_16) = (low _, (low _, (low _, (low _, (low _, (low _, (low _, (low _, (low _, (low _, (low _, (low _, (low _, (low _, (low _, (low _, tt)))))))))))))))) in
      let at : (j : ℕ) → j < 4 → chunk (4 * j) 4 (swz_l w8 16 (bytes_of x) 0 right_16) ≡ get_or (bytes_of x) (4 * j + 2) 0 ∷ get_or (bytes_of x) (4 * j + 3) 0 ∷ get_or (bytes_of x) (4 * j + 0) 0 ∷ get_or (bytes_of x) (4 * j + 1) 0 ∷ []
      → get_or (turned x right_16) j 0 ≡ rotate_right w32 (get_or x j 0) 16 =
      λ j h same. lane x right_16 j 2 3 0 1 fits small h (lit< tt) (lit< tt) (lit< tt) (lit< tt) same ∙ by_16 (get_or x j 0) (word j h) in
      subst (λ (l : List ℕ). (j : ℕ) → j < 4 → get_or (turned x l) j 0 ≡ rotate_right w32 (get_or x j 0) 16) (sym is)
      (below_four (λ j. get_or (turned x right_16) j 0 ≡ rotate_right w32 (get_or x j 0) 16)
      (at 0 (lit< tt) refl) (at 1 (lit< tt) refl) (at 2 (lit< tt) refl) (at 3 (lit< tt) refl))

  pub turns_8 : (ks : List ℕ) → ks ≡ right_8 → (j : ℕ) → j < 4 → get_or (turned x ks) j 0 ≡ rotate_right w32 (get_or x j 0) 8
  turns_8 ks is =
      let small : Each1 (λ n. n < 256) (swz_l w8 16 (bytes_of x) 0 right_8) = (low _, (low _, (low _, (low _, (low _, (low _, (low _, (low _, (low _, (low _, (low _, (low _, (low _, (low _, (low _, (low _, tt)))))))))))))))) in
      let at : (j : ℕ) → j < 4 → chunk (4 * j) 4 (swz_l w8 16 (bytes_of x) 0 right_8) ≡ get_or (bytes_of x) (4 * j + 1) 0 ∷ get_or (bytes_of x) (4 * j + 2) 0 ∷ get_or (bytes_of x) (4 * j + 3) 0 ∷ get_or (bytes_of x) (4 * j + 0) 0 ∷ []
      → get_or (turned x right_8) j 0 ≡ rotate_right w32 (get_or x j 0) 8 =
      λ j h same. lane x right_8 j 1 2 3 0 fits small h (lit< tt) (lit< tt) (lit< tt) (lit< tt) same ∙ by_8 (get_or x j 0) (word j h) in
      subst (λ (l : List ℕ). (j : ℕ) → j < 4 → get_or (turned x l) j 0 ≡ rotate_right w32 (get_or x j 0) 8) (sym is)
      (below_four (λ j. get_or (turned x right_8) j 0 ≡ rotate_right w32 (get_or x j 0) 8)
      (at 0 (lit< tt) refl) (at 1 (lit< tt) refl) (at 2 (lit< tt) refl) (at 3 (lit< tt) refl))
