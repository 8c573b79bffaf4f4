-- How many hexadecimal digits numbers have.
use Rattle.std.proofs.Common.{◌≡◌, ℕ, zero, suc, ◌+◌, ◌/◌, ◌%◌, ◌^◌, ◌<◌, ◌≤◌, ◌==◌, inl, inr, true, false, List, [], ◌∷◌, length, if◌then◌else◌, refl, arith}
use Rattle.std.proofs.Math.Nat.{pow-succ'}
use Rattle.std.proofs.lemmas.Bool.{cases_Bool, eqb-true}
use Rattle.std.specs.Fmt.{digits, digits_onto, digit_glyph}

onto_behind : (k n : ℕ) (behind : List ℕ) → length (digits_onto k 16 false n behind) ≡ length (digits_onto k 16 false n []) + length behind
onto_behind zero n behind = omega arith
onto_behind (suc k) n behind =
    let g = digit_glyph false (n % 16) in
    let one = onto_behind k (n / 16) (g ∷ behind) in
    let other = onto_behind k (n / 16) (g ∷ []) in
    elim (n / 16 == 0) as (λ b. length (if b then g ∷ behind else digits_onto k 16 false (n / 16) (g ∷ behind)) ≡ length (if b then g ∷ [] else digits_onto k 16 false (n / 16) (g ∷ [])) + length behind) [
      | true ↦ omega arith
      | false ↦ omega (arith, one, other)
    ]

-- one more digit than there may be changes nothing
enough : (k n : ℕ) → n < 16 ^ suc k → length (digits_onto (suc k) 16 false n []) ≡ length (digits_onto (suc (suc k)) 16 false n [])
enough zero n small = let none : n / 16 ≡ 0 = omega arith in rw none refl
enough (suc k) n small =
    let g = digit_glyph false (n % 16) in
    let less : n / 16 < 16 ^ suc k = omega (arith, pow-succ' 16 (suc k)) in
    let same = enough k (n / 16) less in
    let one = onto_behind (suc k) (n / 16) (g ∷ []) in
    let other = onto_behind (suc (suc k)) (n / 16) (g ∷ []) in
    elim (n / 16 == 0) as (λ b. length (if b then g ∷ [] else digits_onto (suc k) 16 false (n / 16) (g ∷ [])) ≡ length (if b then g ∷ [] else digits_onto (suc (suc k)) 16 false (n / 16) (g ∷ []))) [
      | true ↦ refl
      | false ↦ omega (arith, one, other, same)
    ]

-- one digit more than those of the rest
step : (k q d : ℕ) → 0 < q → q < 16 ^ suc k → length (if q == 0 then d ∷ [] else digits_onto (suc k) 16 false q (d ∷ [])) ≡ 1 + length (digits_onto (suc (suc k)) 16 false q [])
step k zero d some less = absurd (omega arith)
step k (suc q) d some less =
    let one = onto_behind (suc k) (suc q) (d ∷ []) in
    let same = enough k (suc q) less in
    elim (cases_Bool (suc q == 0)) [
      | inl none ↦ (let no : suc q ≡ 0 = eqb-true (suc q) 0 none in absurd (omega arith))
      | inr other ↦ rw other (omega (arith, one, same))
    ]

next : (k n : ℕ) → 16 ≤ n → n < 16 ^ suc k → length (digits_onto (suc (suc k)) 16 false n []) ≡ 1 + length (digits_onto (suc (suc k)) 16 false (n / 16) [])
next k n large small = let some : 0 < n / 16 = omega arith in let less : n / 16 < 16 ^ suc k = omega arith in step k (n / 16) (digit_glyph false (n % 16)) some less

-- a number that isn't a single digit has one more than its sixteenth part
pub one_more : (n : ℕ) → 16 ≤ n → n < 2 ^ 64 → length (digits 16 false n) ≡ 1 + length (digits 16 false (n / 16))
unfolding digits
one_more n large small = let less : n < 16 ^ 63 = omega arith in next 62 n large less
