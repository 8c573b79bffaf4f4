-- Which weights reach a whole.
use Rattle.std.specs.Prelude.{◌<◌, ◌≤◌, ◌^◌, ◌*◌, ◌+◌, ◌/◌, nat_le, ℕ, List, [], ◌∷◌, Bool, true, IsTrue, if◌then◌else◌, map}
use Rattle.std.specs.List.{AllByRecursion}
use Rattle.sith.specs.declared.weight.Weight.{Weight}
use Rattle.sith.specs.Divisors.{AllDivide}
use Rattle.sith.specs.Weights.{IsWeight, numerator, denominator}

-- a weight, and whether it is met
abbrev pub Share : Type 0
Share = Weight × Bool

-- the product of all denominators
abbrev pub product : List Share → ℕ
product [] = 1
product (s ∷ shares) = denominator s.0 * product shares

-- the sum of the weights that are met, in parts of a whole of so many parts
abbrev pub sum_met : ℕ → List Share → ℕ
sum_met whole [] = 0
sum_met whole (s ∷ shares) = (if s.1 then numerator s.0 * (whole / denominator s.0) else 0) + sum_met whole shares

-- the weights that are met sum to at least 1
abbrev pub reach_whole : List Share → Bool
reach_whole shares = nat_le (product shares) (sum_met (product shares) shares)

module _ {A : Type 0} (weight : A → Weight) (size : A → ℕ) (is_met : A → ℕ → List ℕ → Bool) where
  -- the weights of these, each with whether it is met by these indices: the first has this index, and each takes as many
  -- as its size
  abbrev pub shares_at : List A → ℕ → List ℕ → List Share
  shares_at [] start indices = []
  shares_at (a ∷ others) start indices = (weight a, is_met a start indices) ∷ shares_at others (start + size a) indices

-- no number up to 2^64 is a common multiple of the denominators: the least one is over 2^64
abbrev pub IsTooFine : List Weight → Type 0
IsTooFine weights = (m : ℕ) → 0 < m → m ≤ 2 ^ 64 → ¬ AllDivide (map denominator weights) m

-- some number up to 2^64 is a common multiple of the denominators: the least one is at most 2^64
abbrev pub IsFine : List Weight → Type 0
IsFine weights = (m : ℕ) × (0 < m) × (m ≤ 2 ^ 64) × AllDivide (map denominator weights) m

-- all these weights, met
abbrev pub all_met : List Weight → List Share
all_met weights = map (λ w. (w, true)) weights

-- the weights sum to at least 1
abbrev pub IsReachable : List Weight → Type 0
IsReachable weights = IsTrue (reach_whole (all_met weights))

-- weights that a reading lets pass together
abbrev pub AreRead : List Weight → Type 0
AreRead weights = AllByRecursion IsWeight weights × IsFine weights × IsReachable weights
