-- Numbers that rise.
use Rattle.std.specs.Prelude.{ℕ, List}

-- the numbers, and how many more there is room for
pub record Numbers : Type 0 where
  pub list : List ℕ
  pub free : ℕ
