-- Euclid's algorithm, step by step.
use Rattle.std.proofs.Common.{◌≡◌, ℕ, zero, suc, ◌^◌, ◌+◌, ◌*◌, ◌/◌, ◌%◌, ◌<◌, ◌≤◌, sym, ap, subst, ◌∙◌, arith}
use Prim.Native.Nat.{◌∣◌}
use native.Mathlib.Nat.{eq-zero_of_zero-dvd, suc-mul, div-le_self, mul-le-mul_right, dvd-mul_left, mul-dvd-mul_left, mul-dvd-mul_right, dvd_refl, dvd-zero, dvd-mul_right, dvd-mul_right_of_dvd, dvd-mod_iff, dvd-add_iff_right, div-add-mod, mul-div_cancel', div-mul_cancel, dvd_of_mul-dvd-mul_right, mul_comm, mul_assoc}
use Rattle.sith.specs.Divisors.{IsGreatestDivisor, IsMultipleOfBoth}

pub from_zero : (a b : ℕ) → b ≡ 0 → IsGreatestDivisor a b a
from_zero a b e = record { one = dvd_refl a; other = subst (λ n. a ∣ n) (sym e) (dvd-zero a); greatest = λ d m p q. p }

times_rest : (a b m : ℕ) → a * m ≡ (b * m) * (a / b) + (a % b) * m
times_rest a b m = ap (λ n. n * m) (sym (div-add-mod a b)) ∙ grind arith

pub from_rest : (a b g : ℕ) → IsGreatestDivisor b (a % b) g → IsGreatestDivisor a b g
from_rest a b g h = record {
  one = (dvd-mod_iff g h.one).0 h.other;
  other = h.one;
  greatest = λ d m p q.
      h.greatest d m q ((dvd-add_iff_right d (dvd-mul_right_of_dvd d q (a / b))).1 (subst (λ n. d ∣ n) (times_rest a b m) p));
}

module _ (a b g : ℕ) (some : 0 < g) (h : IsGreatestDivisor a b g) where
  pub regroup : a * b ≡ (a * (b / g)) * g
  regroup = ap (λ n. a * n) (sym (div-mul_cancel g h.other)) ∙ sym (mul_assoc a (b / g) g)

  other_way : a * (b / g) ≡ (a / g) * b
  other_way = ap (λ n. n * (b / g)) (sym (div-mul_cancel g h.one)) ∙ mul_assoc (a / g) g (b / g) ∙ ap (λ n. (a / g) * n) (mul-div_cancel' g h.other)

  whole : (m : ℕ) → a ∣ m → b ∣ m → a * b ∣ m * g
  whole m p q =
      subst (λ n. a * b ∣ n) (mul_comm g m)
      (h.greatest (a * b) m (mul-dvd-mul_left b a q) (subst (λ n. a * b ∣ n) (mul_comm m b) (mul-dvd-mul_right a p b)))

  pub least_of : IsMultipleOfBoth a b (a * (b / g))
  least_of = record {
    one = dvd-mul_right a (b / g);
    other = subst (λ n. b ∣ n) (sym other_way) (dvd-mul_left b (a / g));
    least = λ m p q. dvd_of_mul-dvd-mul_right (a * (b / g)) some (subst (λ n. n ∣ m * g) regroup (whole m p q));
  }

-- a divisor of a number that is not 0
pub some_divisor : (g a : ℕ) → 0 < a → g ∣ a → 0 < g
some_divisor zero a some divides = absurd (omega (arith, some, eq-zero_of_zero-dvd divides))
some_divisor (suc g) a some divides = omega arith

pub factor_some : (p g n : ℕ) → n ≡ p * g → 0 < n → 0 < p
factor_some zero g n e some = absurd (omega (arith, e, some))
factor_some (suc p) g n e some = omega arith

product_some : (a b : ℕ) → 0 < a → 0 < b → 0 < a * b
product_some zero b x y = absurd (omega (arith, x))
product_some a zero x y = absurd (omega (arith, y))
product_some (suc a) (suc b) x y = simp suc-mul (omega arith)

-- how large the least common multiple is
pub multiple_range : (a b g : ℕ) → 0 < g → IsGreatestDivisor a b g → 0 < a → a ≤ 2 ^ 64 → 0 < b → b < 2 ^ 32 → (0 < a * (b / g)) × (a * (b / g) < 2 ^ 96)
multiple_range a b g some h a_some a_most b_some b_most = (
  factor_some (a * (b / g)) g (a * b) (regroup a b g some h) (product_some a b a_some b_some),
  omega (arith, a_most, b_most, div-le_self b g, mul-le-mul_right (b / g) a_most),
)
