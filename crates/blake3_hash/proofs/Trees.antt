-- The tree over bytes: what it is where it is one chunk, and where it is two subtrees.
use Rattle.std.proofs.Common.{◌≡◌, ◌∙◌, ℕ, zero, suc, ◌+◌, ◌*◌, ◌^◌, ◌<◌, ◌≤◌, List, length, take, drop, nat_lt, refl, inl, inr, arith, length-drop}
use Rattle.std.proofs.Math.Nat.{two-pow-succ}
use Rattle.std.proofs.Math.Pow.{pow_mono}
use Rattle.std.proofs.lemmas.Bool.{cases_Bool, cases_lt, cond-false, cond-true}
use Rattle.std.proofs.lemmas.List.{length-take}
use Rattle.std.proofs.lemmas.Nat.{pow_pos}
use Rattle.std.proofs.lemmas.Bool.Decides.{nat_tests}
use Rattle.blake3_hash.specs.Chunk.{chunk_value}
use Rattle.blake3_hash.specs.Tree.{chunk_count, left_chunks, parent_value, power_below, tree, tree_within}

-- a power of two is above its exponent
pow_above : (k : ℕ) → k < 2 ^ k
pow_above zero = omega arith
pow_above (suc k) =
    let rest = pow_above k in
    omega (arith, two-pow-succ k)

-- the greatest power of two below n is 2 ^ k, where n is above that and no more than its double
pub power_below-is : (j k n : ℕ) → k ≤ j → 2 ^ k < n → n ≤ 2 ^ k + 2 ^ k → power_below j n ≡ 2 ^ k
unfolding power_below
power_below-is zero zero n le low high = refl
power_below-is zero (suc k) n le low high = absurd (omega arith)
power_below-is (suc j) k n le low high = elim (cases_lt j k) [
  | inl top ↦
      let same : k ≡ suc j = omega arith in
      let below : 2 ^ suc j < n = rw (← same) low in
      rw same (grind (arith, nat_tests))
  | inr under ↦
      let grown : 2 ^ suc k ≤ 2 ^ suc j = pow_mono (omega arith) in
      let double = two-pow-succ k in
      let above : n ≤ 2 ^ suc j = omega arith in
      let rest = power_below-is j k n under low high in
      grind (arith, nat_tests)
]

-- it is at least one
pub power_below-pos : (j n : ℕ) → 1 ≤ power_below j n
unfolding power_below
power_below-pos zero n = omega arith
power_below-pos (suc j) n =
    let rest = power_below-pos j n in
    let one = pow_pos (suc j) in
    grind (arith, nat_tests)

-- and less than n, where n is above one
pub power_below-less : (j n : ℕ) → 1 < n → power_below j n < n
unfolding power_below
power_below-less zero n more = more
power_below-less (suc j) n more =
    let rest = power_below-less j n more in
    grind (arith, nat_tests)

-- it is a power of two
power_below-power : (j n : ℕ) → (k : ℕ) × (power_below j n ≡ 2 ^ k)
unfolding power_below
power_below-power zero n = (0, refl)
power_below-power (suc j) n = elim (cases_Bool (nat_lt (2 ^ suc j) n)) [
  | inl below ↦ (suc j, cond-true (nat_lt (2 ^ suc j) n) (2 ^ suc j) (power_below j n) below)
  | inr above ↦
      let rest = power_below-power j n in
      (rest.0, cond-false (nat_lt (2 ^ suc j) n) (2 ^ suc j) (power_below j n) above ∙ rest.1)
]

-- and its double is not less than n, where n is small enough for the search
power_below-greatest : (j n : ℕ) → n ≤ 2 ^ suc j → n ≤ 2 * power_below j n
unfolding power_below
power_below-greatest zero n fits = fits
power_below-greatest (suc j) n fits =
    let double = two-pow-succ (suc j) in
    elim (cases_lt (2 ^ suc j) n) [
      | inl below ↦ grind (arith, nat_tests)
      | inr above ↦
          let rest = power_below-greatest j n above in
          grind (arith, nat_tests)
    ]

-- at any two depths that are not less than its chunks are many, a tree is the same
pub tree_within-same : (d e first : ℕ) (bytes : List ℕ) (flags : ℕ) → chunk_count (length bytes) ≤ d → chunk_count (length bytes) ≤ e
    → tree_within d first bytes flags ≡ tree_within e first bytes flags
unfolding tree_within
tree_within-same zero zero first bytes flags p q = refl
tree_within-same zero (suc e) first bytes flags p q =
    let short : length bytes ≤ 1024 = omega arith in
    grind (arith, nat_tests)
tree_within-same (suc d) zero first bytes flags p q =
    let short : length bytes ≤ 1024 = omega arith in
    grind (arith, nat_tests)
tree_within-same (suc d) (suc e) first bytes flags p q = elim (cases_lt 1024 (length bytes)) [
  | inl long ↦
      let left : ℕ = left_chunks (chunk_count (length bytes)) in
      let pos : 1 ≤ left = power_below-pos _ _ in
      let less : left < chunk_count (length bytes) = power_below-less _ _ (omega arith) in
      let front = tree_within-same d e first (take (1024 * left) bytes) 0 (simp length-take (omega arith)) (simp length-take (omega arith)) in
      let back = tree_within-same d e (first + left) (drop (1024 * left) bytes) 0 (simp length-drop (omega arith)) (simp length-drop (omega arith)) in
      rw (front, back) refl
  | inr short ↦ grind (arith, nat_tests)
]

-- a tree over at most 1,024 bytes is one chunk
pub tree-chunk : (first : ℕ) (bytes : List ℕ) (flags : ℕ) → length bytes ≤ 1024 → tree first bytes flags ≡ chunk_value first bytes flags
unfolding tree tree_within
tree-chunk first bytes flags short =
    let one : tree_within 1 first bytes flags ≡ chunk_value first bytes flags = grind (arith, nat_tests) in
    tree_within-same (chunk_count (length bytes)) 1 first bytes flags (omega arith) (omega arith) ∙ one

-- a tree over more is the parent of the trees over its left chunks and over the rest
pub tree-parent : (first : ℕ) (bytes : List ℕ) (flags : ℕ) → 1024 < length bytes
    → tree first bytes flags ≡ parent_value
    (tree first (take (1024 * left_chunks (chunk_count (length bytes))) bytes) 0)
    (tree (first + left_chunks (chunk_count (length bytes))) (drop (1024 * left_chunks (chunk_count (length bytes))) bytes) 0) flags
unfolding tree tree_within
tree-parent first bytes flags long =
    let count : ℕ = chunk_count (length bytes) in
    let left : ℕ = left_chunks count in
    let pos : 1 ≤ left = power_below-pos _ _ in
    let less : left < count = power_below-less _ _ (omega arith) in
    let open_up : tree_within (suc count) first bytes flags ≡ parent_value (tree_within count first (take (1024 * left) bytes) 0) (tree_within count (first + left) (drop (1024 * left) bytes) 0) flags =
    grind (arith, nat_tests) in
    let front = tree_within-same count (chunk_count (length (take (1024 * left) bytes))) first (take (1024 * left) bytes) 0 (simp length-take (omega arith)) (omega arith) in
    let back = tree_within-same count (chunk_count (length (drop (1024 * left) bytes))) (first + left) (drop (1024 * left) bytes) 0 (simp length-drop (omega arith)) (omega arith) in
    tree_within-same count (suc count) first bytes flags (omega arith) (omega arith) ∙ open_up ∙ rw (front, back) refl

-- the same, where the left chunks are 2 ^ k
pub tree-split : (k first : ℕ) (bytes : List ℕ) (flags : ℕ) → 1024 * 2 ^ k < length bytes → length bytes ≤ 1024 * 2 ^ k + 1024 * 2 ^ k
    → tree first bytes flags ≡ parent_value (tree first (take (1024 * 2 ^ k) bytes) 0) (tree (first + 2 ^ k) (drop (1024 * 2 ^ k) bytes) 0) flags
tree-split k first bytes flags low high =
    let one = pow_pos k in
    let count : ℕ = chunk_count (length bytes) in
    let far = pow_above k in
    let deep : k ≤ count = omega arith in
    let left : left_chunks count ≡ 2 ^ k = power_below-is count k count deep (omega arith) (omega arith) in
    rw left at (tree-parent first bytes flags (omega arith))
