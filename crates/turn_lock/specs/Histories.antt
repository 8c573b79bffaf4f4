-- Histories as lists of entries, and shares of them.
use Rattle.std.specs.Prelude.{◌≡◌, ℕ, ◌⊎◌, List, [], ◌∷◌, ◌++◌, length, filter, Bool, false, ◌||◌, ◌==◌, nat_lt, if◌then◌else◌}

module _ {E : Type 0} where
  -- the share of the number k in a history: its entries that name k, in order
  abbrev pub share_of : (E → ℕ) → ℕ → List E → List E
  share_of names k history = filter (λ e. names e == k) history

  -- the share es is listed under the number k
  abbrev pub HasShare : List (ℕ × List E) → ℕ → List E → Type 0
  HasShare [] k es = ⊥
  HasShare (p ∷ ps) k es = (p ≡ (k, es)) ⊎ HasShare ps k es

  -- whether a share is listed under the number k
  abbrev pub has_share : List (ℕ × List E) → ℕ → Bool
  has_share [] k = false
  has_share (p ∷ ps) k = (p.0 == k) || has_share ps k

  -- the shares, with es at the end of the one under the number k
  abbrev pub longer_share : ℕ → List E → List (ℕ × List E) → List (ℕ × List E)
  longer_share k es [] = []
  longer_share k es (p ∷ ps) = (p.0, (if p.0 == k then p.1 ++ es else p.1)) ∷ longer_share k es ps

  -- the longer of two lists
  abbrev pub longer : List E → List E → List E
  longer xs ys = if nat_lt (length xs) (length ys) then ys else xs

  -- the other one
  abbrev pub shorter : List E → List E → List E
  shorter xs ys = if nat_lt (length xs) (length ys) then xs else ys
