-- The tree of BLAKE3 over a whole list of bytes, and its digest. Section numbers are those of the
-- BLAKE3 specification.
use Rattle.std.specs.Prelude.{◌≡◌, ◌<◌, ◌≤◌, ℕ, zero, suc, ◌+◌, ◌*◌, ◌/◌, ◌^◌, List, ◌++◌, length, take, drop, flat_map, bit_or, if◌then◌else◌, ◌==◌, nat_lt, max}
use Rattle.std.specs.Int.{w32, to_le_bytes}
use Rattle.blake3_hash.specs.Compression.{iv, compress, parent, root}
use Rattle.blake3_hash.specs.Chunk.{chunk_value}

-- the chaining value of the parent of two, whose message is their chaining values, and `flags`
-- besides (2.5)
unfoldable pub parent_value : List ℕ → List ℕ → ℕ → List ℕ
parent_value left right flags = compress iv (left ++ right) 0 64 (bit_or parent flags)

-- how many chunks so many bytes are cut into: chunks of 1,024 bytes, of which the last may be
-- shorter, and one empty chunk for no bytes (2.1)
abbrev pub chunk_count : ℕ → ℕ
chunk_count n = max 1 ((n + 1023) / 1024)

-- the greatest power of two that is less than n and at most 2 ^ k, or 1
unfoldable pub power_below : ℕ → ℕ → ℕ
power_below zero n = 1
power_below (suc k) n = if nat_lt (2 ^ suc k) n then 2 ^ suc k else power_below k n

-- how many chunks go into the left subtree, of n in all: the greatest power of two that is less
-- than n (2.1)
abbrev pub left_chunks : ℕ → ℕ
left_chunks n = power_below n n

-- The chaining value of the tree over bytes whose first chunk has the number `first`, with `flags`
-- on its last compression besides: one chunk, or the parent of the tree over the left chunks and
-- the tree over the rest (2.1). `depth` is any number that is not less than the tree's height; the
-- law `tree_law` says the same without it.
unfoldable pub tree_within : ℕ → ℕ → List ℕ → ℕ → List ℕ
tree_within zero first bytes flags = chunk_value first bytes flags
tree_within (suc depth) first bytes flags =
    let count = chunk_count (length bytes) in
    let left = left_chunks count in
    let front = tree_within depth first (take (1024 * left) bytes) 0 in
    let rest = tree_within depth (first + left) (drop (1024 * left) bytes) 0 in
    if count == 1 then chunk_value first bytes flags else parent_value front rest flags

-- the same, at a depth that always suffices: a tree is less high than its chunks are many
unfoldable pub tree : ℕ → List ℕ → ℕ → List ℕ
tree first bytes flags = tree_within (chunk_count (length bytes)) first bytes flags

-- the 32-byte digest: the words of the whole tree, each with its lowest byte first, whose last
-- compression is flagged ROOT (2.6)
unfoldable pub blake3 : List ℕ → List ℕ
blake3 bytes = flat_map (to_le_bytes w32) (tree 0 bytes root)

-- p is the greatest power of two that is less than n
pub record IsGreatestPowerBelow (p n : ℕ) : Type 0 where
  pub power : (k : ℕ) × (p ≡ 2 ^ k)
  pub less : p < n
  pub greatest : n ≤ 2 * p
