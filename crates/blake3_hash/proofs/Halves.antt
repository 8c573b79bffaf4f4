-- A count halved again and again.
use Rattle.std.proofs.Common.{◌≡◌, ◌∙◌, ℕ, ◌+◌, ◌-◌, ◌*◌, ◌/◌, ◌%◌, ◌^◌, ◌<◌, ◌≤◌, sym, ap, inl, inr, arith}
use Rattle.std.proofs.Math.Nat.{div-mul-le_self, mul-div_cancel, mul-le-mul_right}
use Rattle.std.proofs.Math.Pow.{pow_mono}
use Rattle.std.proofs.lemmas.Bool.{cases_lt}
use Rattle.std.proofs.lemmas.Grind.{pow_more}
use Rattle.std.proofs.lemmas.Nat.{div-add-mod', mod_below, pow-add, pow_pos, shr-shr}

-- halved once more
pub half-more : (n k : ℕ) → n / 2 ^ (k + 1) ≡ n / 2 ^ k / 2
half-more n k = sym (shr-shr n k 1)

-- what is left after the halvings is the count's highest part
pub half-fits : (n k q : ℕ) → n / 2 ^ k ≡ q → q * 2 ^ k ≤ n
half-fits n k q is = rw (← is) (div-mul-le_self n (2 ^ k))

-- and one more of it is more than the count
pub half-above : (n k q : ℕ) → n / 2 ^ k ≡ q → n < (q + 1) * 2 ^ k
half-above n k q is =
    let parts = div-add-mod' n (2 ^ k) in
    let rest : n % 2 ^ k < 2 ^ k = mod_below n (2 ^ k) (pow_pos k) in
    rw (← is) (omega arith)

-- a quotient of at least one is that of a number not less than the divisor
divisor_fits : (n w : ℕ) → 1 ≤ n / w → w ≤ n
divisor_fits n w some = omega (arith, mul-le-mul_right w some, div-mul-le_self n w)

-- where something is left of a count below 2 ^ 54, fewer than 54 halvings were made
pub height_below : (n k : ℕ) → n < 2 ^ 54 → 1 ≤ n / 2 ^ k → k < 54
height_below n k few some = elim (cases_lt k 54) [
  | inl low ↦ low
  | inr high ↦
      let grown : 2 ^ 54 ≤ 2 ^ k = pow_mono high in
      let fits : 2 ^ k ≤ n = divisor_fits n (2 ^ k) some in
      absurd (omega arith)
]

-- an even count and the next one are the same, once halved
pub half-same : (m n h k q : ℕ) → m / 2 ^ h ≡ q → n / 2 ^ h ≡ q + 1 → q % 2 ≡ 0 → h < k → n / 2 ^ k ≡ m / 2 ^ k
half-same m n h k q m_is n_is even above =
    let j : ℕ = k - (h + 1) in
    let at : k ≡ (h + 1) + j = omega arith in
    let once : n / 2 ^ (h + 1) ≡ m / 2 ^ (h + 1) = half-more n h ∙ (let e : n / 2 ^ h / 2 ≡ m / 2 ^ h / 2 = omega arith in e) ∙ sym (half-more m h) in
    rw at (sym (shr-shr n (h + 1) j) ∙ ap (λ (x : ℕ). x / 2 ^ j) once ∙ shr-shr m (h + 1) j)

-- a multiple of 2 ^ k, halved fewer times than k, is even
pub multiple_even : (m k j : ℕ) → j < k → m * 2 ^ k / 2 ^ j % 2 ≡ 0
multiple_even m k j below =
    let rest : ℕ = k - (j + 1) in
    let at : k ≡ (rest + 1) + j = omega arith in
    let once : 2 ^ (rest + 1) ≡ 2 ^ rest * 2 = pow_more 2 rest in
    let power : 2 ^ k ≡ 2 ^ rest * 2 * 2 ^ j = ap (λ (n : ℕ). 2 ^ n) at ∙ pow-add 2 (rest + 1) j ∙ ap (λ (n : ℕ). n * 2 ^ j) once in
    let parts : m * (2 ^ rest * 2 * 2 ^ j) ≡ m * 2 ^ rest * 2 * 2 ^ j = grind arith in
    rw (power, parts, mul-div_cancel (m * 2 ^ rest * 2) (pow_pos j)) (omega arith)
