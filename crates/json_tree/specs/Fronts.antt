-- What stands at the front of some bytes.
use Rattle.std.specs.Prelude.{◌≡◌, ◌≢◌, ◌≤◌, ℕ, List, ◌∷◌, ◌++◌, ◌⊎◌, length}

-- the rest stands behind a byte of this sort
abbrev pub StartsWith : (ℕ → Type 0) → List ℕ → List ℕ → Type 0
StartsWith Is bytes rest = (b : ℕ) × Is b × (bytes ≡ b ∷ rest)

abbrev pub IsEither : ℕ → ℕ → ℕ → Type 0
IsEither one other b = (b ≡ one) ⊎ (b ≡ other)

-- the rest stands behind a front of the bytes that is a P
pub record Takes (P : List ℕ → Type 0) (bytes rest : List ℕ) : Type 0 where
  pub front : List ℕ
  pub is : P front
  pub whole : bytes ≡ front ++ rest

-- the rest stands behind the longest front of the bytes that is a P
pub record TakesLongest (P : List ℕ → Type 0) (bytes rest : List ℕ) : Type 0 where
  pub front : List ℕ
  pub is : P front
  pub whole : bytes ≡ front ++ rest
  pub longest : (other more : List ℕ) → P other → bytes ≡ other ++ more → length rest ≤ length more

-- no front of the bytes is a P
abbrev pub NoneStands : (List ℕ → Type 0) → List ℕ → Type 0
NoneStands P bytes = (front more : List ℕ) → P front → bytes ≢ front ++ more
