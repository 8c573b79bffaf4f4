-- The tree over eight whole chunks, which is made of trees over two and over four.
use Rattle.std.proofs.Common.{◌≡◌, ℕ, ◌+◌, ◌*◌, ◌^◌, ◌<◌, ◌≤◌, List, [], length, take, drop, slice_index_or, refl, sym, ap₂, arith}
use Rattle.std.proofs.Math.Nat.{two-pow-succ}
use Rattle.std.proofs.lemmas.List.{length-take, take_all}
use Rattle.std.proofs.Common.{add-one}
use Rattle.blake3_hash.specs.Chunk.{chunk_value}
use Rattle.blake3_hash.specs.Lanes.{eight_values, eight_words, whole_chunk}
use Rattle.blake3_hash.specs.Tree.{parent_value, tree}
use Rattle.blake3_hash.proofs.FourLanes.{below_four}
use Rattle.blake3_hash.proofs.Subtrees.{two_subtrees}
use Rattle.blake3_hash.proofs.Trees.{tree-chunk}

-- the tree over the 2 ^ k chunks from chunk `at` on, where the first of all has the number `first`
abbrev pub part : ℕ → ℕ → ℕ → List ℕ → List ℕ
part k first at bytes = tree (first + at) (take (1024 * 2 ^ k) (drop (1024 * at) bytes)) 0

-- one chunk
pub part-chunk : (first j : ℕ) (bytes : List ℕ) → chunk_value (first + j) (whole_chunk bytes j) 0 ≡ part 0 first j bytes
part-chunk first j bytes = sym (tree-chunk (first + j) (whole_chunk bytes j) 0 (omega (arith, length-take 1024 (drop (1024 * j) bytes))))

-- two neighbours
pub part-two : (k first at p q : ℕ) (bytes left right : List ℕ) → 1024 * (at + 2 ^ k + 2 ^ k) ≤ length bytes → p ≡ at → q ≡ at + 2 ^ k
    → left ≡ part k first p bytes → right ≡ part k first q bytes → parent_value left right 0 ≡ part (k + 1) first at bytes
part-two k first at p q bytes left right fits here there l r =
    let w : ℕ = 2 ^ k in
    let double : 2 ^ (k + 1) ≡ w + w = rw add-one (two-pow-succ k) in
    let number : first + (at + w) ≡ first + at + w = omega arith in
    rw (double, l, r, here, there, number) (sym (two_subtrees k (first + at) at bytes fits))

-- all eight
pub part-all : (first : ℕ) (bytes : List ℕ) → length bytes ≡ 8192 → part 3 first 0 bytes ≡ tree first bytes 0
part-all first bytes long = ap₂ (λ (n : ℕ) (l : List ℕ). tree n l 0) (omega arith) (take_all 8192 bytes (omega arith))

-- the values in the lanes of the first of two
pub front-values : (x y : List (List ℕ)) (i : ℕ) → i < 4 → slice_index_or (eight_values x y) i [] ≡ eight_words i x
front-values x y = below_four (λ i. slice_index_or (eight_values x y) i [] ≡ eight_words i x) refl refl refl refl
