-- Lines of a text, each of which a line feed ends.
use Rattle.std.specs.Prelude.{◌≡◌, ℕ, ◌<◌, ◌==◌, List, length}
use Rattle.std.specs.List.{position_or_len, before_first, after_first}

-- the two parts stand before the first such byte and behind it
pub record Splits (separator : ℕ) (bytes front behind : List ℕ) : Type 0 where
  pub stands : position_or_len (λ b. b == separator) bytes < length bytes
  pub front_is : front ≡ before_first (λ b. b == separator) bytes
  pub behind_is : behind ≡ after_first (λ b. b == separator) bytes

-- the text's first line, without the line feed that ends it, and the rest behind that
abbrev pub HasLine : List ℕ → List ℕ → List ℕ → Type 0
HasLine text line rest = Splits 10 text line rest
