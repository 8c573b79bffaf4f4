-- How a hasher follows the bytes that are given to it.
use Rattle.std.proofs.Common.{◌≡◌, ◌∙◌, ℕ, ◌+◌, ◌*◌, ◌/◌, ◌%◌, ◌^◌, ◌≤◌, ◌++◌, List, length, take, drop, take-add, refl, sym, ap, arith, length-append, length-drop}
use Rattle.std.proofs.lemmas.List.{drop-append-le, drop_at, drop-drop, length-take, take_all}
use Rattle.std.proofs.lemmas.Slice.{take-put_mid}
use Rattle.blake3_hash.specs.Chunk.{chunk_value}
use Rattle.blake3_hash.specs.Lanes.{whole_chunk}
use Rattle.blake3_hash.specs.Hasher.{HasBytes}
use Rattle.blake3_hash.specs.Stack.{subtree, tree_from}
use Rattle.blake3_hash.specs.Tree.{tree}
use Rattle.blake3_hash.specs.declared.hasher.Hasher.{Hasher}
use Rattle.blake3_hash.proofs.Subtrees.{HasSubtrees-append}
use Rattle.blake3_hash.proofs.Trees.{tree-chunk}
use borrow.Rule.Slice.PartMut.{put_mid}

-- the value of the last chunk, where the bytes end with it
pub subtree-last : (n c : ℕ) (bytes chunk value : List ℕ) → length bytes ≡ 1024 * (n + 1) → drop (1024 * n) bytes ≡ chunk
    → value ≡ chunk_value c chunk 0 → c ≡ n → value ≡ subtree 0 n bytes
unfolding subtree
subtree-last n c bytes chunk value whole is made number =
    let at : n * 2 ^ 0 ≡ n = omega arith in
    let len : length chunk ≡ 1024 = rw (← is) (omega (arith, length-drop (1024 * n) bytes)) in
    let all : take 1024 (drop (1024 * n) bytes) ≡ chunk = rw is (take_all 1024 chunk (omega arith)) in
    rw (at, all) (made ∙ rw number (sym (tree-chunk n chunk 0 (omega arith))))

-- bytes put into the open chunk
pub HasBytes-keep : (s n : Hasher) (before more ys : List ℕ) (k : ℕ) → HasBytes s before → length s.chunk ≡ 1024 → s.used + length more ≤ 1024
    → ys ≡ more → n.stack ≡ s.stack → n.used ≡ s.used + length more → n.chunk ≡ put_mid s.used k s.chunk ys → HasBytes n (before ++ more)
unfolding HasBytes
HasBytes-keep s n before more ys k has room fits same stack used chunk =
    let whole = length-append before more in
    let at : 1024 * s.stack.count ≤ length before = omega (arith, has.0) in
    let kept : take n.used n.chunk ≡ take s.used s.chunk ++ more =
    rw (used, chunk, same) (take-put_mid s.used k s.chunk more (s.used + length more) refl (omega arith)) in
    rw stack (
      omega (arith, has.0),
      HasSubtrees-append s.stack.values s.stack.count before more at has.1,
      kept ∙ rw has.2 (sym (drop-append-le (1024 * s.stack.count) before more at)),
    )

-- a part more of the bytes, which are cut into parts of w bytes
pub take-part : (w : ℕ) (bytes : List ℕ) (n m k : ℕ) → m ≡ w * (n + 1) → k ≡ w → take m bytes ≡ take (w * n) bytes ++ take k (drop (w * n) bytes)
take-part w bytes n m k to width =
    let at : m ≡ w * n + w = omega arith in
    rw (at, width) (take-add (w * n) w bytes)

-- the value of a whole chunk
pub subtree-chunk : (n : ℕ) (bytes : List ℕ) → subtree 0 n bytes ≡ chunk_value n (whole_chunk bytes n) 0
unfolding subtree
subtree-chunk n bytes =
    let at : n * 2 ^ 0 ≡ n = omega arith in
    rw at (tree-chunk n (whole_chunk bytes n) 0 (omega (arith, length-take 1024 (drop (1024 * n) bytes))))

-- the value of chunk number j of those that are added
pub subtree-added : (n j : ℕ) (before more value : List ℕ) → length before ≡ 1024 * n
    → value ≡ chunk_value (n + j) (whole_chunk more j) 0 → value ≡ subtree 0 (n + j) (before ++ more)
subtree-added n j before more value at made =
    let far : 1024 * (n + j) ≡ 1024 * n + 1024 * j = omega arith in
    let behind : drop (1024 * n) (before ++ more) ≡ more = drop_at before more (1024 * n) at in
    let here : drop (1024 * (n + j)) (before ++ more) ≡ drop (1024 * j) more =
    rw far (sym (drop-drop (1024 * j) (1024 * n) (before ++ more)) ∙ ap (drop (1024 * j)) behind) in
    made ∙ sym (subtree-chunk (n + j) (before ++ more) ∙ ap (λ (l : List ℕ). chunk_value (n + j) (take 1024 l) 0) here)

-- the value of eight chunks that are added after eights
pub subtree-eight : (n : ℕ) (before group value : List ℕ) → length before ≡ 1024 * n → n % 8 ≡ 0 → length group ≡ 8192
    → value ≡ tree n group 0 → value ≡ subtree 3 (n / 8) (before ++ group)
unfolding subtree
subtree-eight n before group value at eights long made =
    let here : n / 8 * 2 ^ 3 ≡ n = omega arith in
    let behind : drop (1024 * n) (before ++ group) ≡ group = drop_at before group (1024 * n) at in
    made ∙ sym (rw (here, behind, take_all 8192 group (omega arith)) refl)

-- the tree over what is left after n chunks, which is one chunk
pub tree_from-last : (n c : ℕ) (bytes chunk : List ℕ) (flags f : ℕ) (value : List ℕ) → length bytes ≤ 1024 * (n + 1) → chunk ≡ drop (1024 * n) bytes
    → value ≡ chunk_value c chunk f → c ≡ n → f ≡ flags → value ≡ tree_from 0 n bytes flags
unfolding tree_from
tree_from-last n c bytes chunk flags f value ends is made number flagged =
    let at : n * 2 ^ 0 ≡ n = omega arith in
    let short : length (drop (1024 * n) bytes) ≤ 1024 = omega (arith, length-drop (1024 * n) bytes) in
    rw at (made ∙ rw (number, is, flagged) (sym (tree-chunk n (drop (1024 * n) bytes) flags short)))
