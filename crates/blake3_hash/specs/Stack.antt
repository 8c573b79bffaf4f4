-- What a stack has of the bytes whose whole chunks were pushed on it.
use Rattle.std.specs.Prelude.{◌≡◌, ℕ, ◌+◌, ◌-◌, ◌*◌, ◌/◌, ◌%◌, ◌^◌, ◌<◌, ◌≤◌, List, [], length, take, drop, slice_index_or, if◌then◌else◌, ◌==◌}
use Rattle.blake3_hash.specs.Compression.{root}
use Rattle.blake3_hash.specs.Tree.{tree}

-- the chaining value of subtree number n of 2 ^ k whole chunks
unfoldable pub subtree : ℕ → ℕ → List ℕ → List ℕ
subtree k n bytes = tree (n * 2 ^ k) (take (1024 * 2 ^ k) (drop (1024 * (n * 2 ^ k)) bytes)) 0

-- the chaining value of the tree over all that is left from subtree number n of 2 ^ k chunks on
unfoldable pub tree_from : ℕ → ℕ → List ℕ → ℕ → List ℕ
tree_from k n bytes flags = tree (n * 2 ^ k) (drop (1024 * (n * 2 ^ k)) bytes) flags

-- ROOT, where no chunk is before a subtree
abbrev pub root_flag : ℕ → ℕ
root_flag before = if before == 0 then root else 0

-- at each height k at which the count of chunks, in binary, has a one, the values have the last
-- subtree of 2 ^ k chunks
unfoldable pub HasSubtrees : List (List ℕ) → ℕ → List ℕ → Type 0
HasSubtrees values count bytes = (k : ℕ) → (count / 2 ^ k) % 2 ≡ 1
    → slice_index_or values k [] ≡ subtree k (count / 2 ^ k - 1) bytes

-- after so many whole chunks one more is left of the bytes, which may be shorter, and is empty only
-- where there is no other
abbrev pub EndsAfter : ℕ → List ℕ → Type 0
EndsAfter count bytes = (0 < count → 1024 * count < length bytes) × (length bytes ≤ 1024 * (count + 1))

-- the chunks up to `next`, which come after so many, complete a subtree of 2 ^ k chunks, and none that
-- is higher
pub record Completes (k count next : ℕ) : Type 0 where
  pub carried : next / 2 ^ k ≡ count / 2 ^ k + 1
  pub even : (count / 2 ^ k) % 2 ≡ 0
  pub even_below : (j : ℕ) → j < k → (next / 2 ^ j) % 2 ≡ 0
