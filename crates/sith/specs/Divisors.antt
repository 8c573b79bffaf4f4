-- Common divisors and common multiples.
use Rattle.std.specs.Prelude.{ℕ, ◌*◌, List}
use Rattle.std.specs.List.{AllByRecursion}
use Prim.Native.Nat.{◌∣◌}

-- a common divisor of both, and, times any number, of what divides both times that number
pub record IsGreatestDivisor (a b g : ℕ) : Type 0 where
  pub one : g ∣ a
  pub other : g ∣ b
  pub greatest : (d m : ℕ) → d ∣ a * m → d ∣ b * m → d ∣ g * m

-- each of these divides the number
abbrev pub AllDivide : List ℕ → ℕ → Type 0
AllDivide numbers m = AllByRecursion (λ d. d ∣ m) numbers

-- a common multiple that divides each other
pub record IsLeastMultiple (numbers : List ℕ) (m : ℕ) : Type 0 where
  pub common : AllDivide numbers m
  pub least : (other : ℕ) → AllDivide numbers other → m ∣ other

-- a common multiple of both that divides each other
pub record IsMultipleOfBoth (a b m : ℕ) : Type 0 where
  pub one : a ∣ m
  pub other : b ∣ m
  pub least : (multiple : ℕ) → a ∣ multiple → b ∣ multiple → m ∣ multiple
