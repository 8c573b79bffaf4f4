-- What a weight is.
use Rattle.std.specs.Prelude.{◌≢◌, ◌≤◌, ◌∷◌, ℕ, List, [], ⊤}
use Rattle.sith.specs.declared.weight.Weight.{Weight}
use Rattle.sith.specs.declared.weight.Weight.TheVariants.{Zero, One, Part}

-- from one part of a whole up to all of them
abbrev pub IsPart : ℕ → ℕ → Type 0
IsPart n d = (1 ≤ n) × (n ≤ d) × (d ≤ 4294967295)

-- a weight that some text spells
abbrev pub IsWeight : Weight → Type 0
IsWeight Zero = ⊤
IsWeight One = ⊤
IsWeight (Part n d) = IsPart n d

-- a weight as a fraction
abbrev pub numerator : Weight → ℕ
numerator Zero = 0
numerator One = 1
numerator (Part n d) = n

abbrev pub denominator : Weight → ℕ
denominator Zero = 1
denominator One = 1
denominator (Part n d) = d

-- no byte is a slash
abbrev pub HasNoSlash : List ℕ → Type 0
HasNoSlash [] = ⊤
HasNoSlash (b ∷ bs) = (b ≢ 47) × HasNoSlash bs
