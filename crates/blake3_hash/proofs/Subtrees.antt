-- Subtrees of whole chunks, and how two of them make one.
use Rattle.std.proofs.Common.{◌≡◌, ◌∙◌, ℕ, ◌+◌, ◌-◌, ◌*◌, ◌/◌, ◌^◌, ◌<◌, ◌≤◌, ◌++◌, List, [], length, take, drop, slice_index_or, refl, sym, ap, inl, inr, arith, length-drop, add-one}
use Rattle.std.proofs.Math.Nat.{two-pow-succ}
use Rattle.std.proofs.lemmas.Bool.{cases_order}
use Rattle.std.proofs.lemmas.Bool.Decides.{nat_tests}
use Rattle.std.proofs.lemmas.List.{length-take, take-take, drop-take, drop-drop, take-append-le, drop-append-le, get_or-set_same, get_or-set_other}
use Rattle.std.proofs.Math.ListN.{set}
use Rattle.std.proofs.lemmas.Nat.{pow_pos}
use Rattle.blake3_hash.specs.Stack.{Completes, EndsAfter, HasSubtrees, root_flag, subtree, tree_from}
use Rattle.blake3_hash.specs.Tree.{parent_value, tree}
use Rattle.blake3_hash.proofs.Halves.{half-above, half-fits, half-same}
use Rattle.blake3_hash.proofs.Trees.{tree-split}

-- two neighbours of w chunks each, in the bytes of both
first_of_two : (w at : ℕ) (bytes : List ℕ) → take (1024 * w) (take (1024 * (w + w)) (drop (1024 * at) bytes)) ≡ take (1024 * w) (drop (1024 * at) bytes)
first_of_two w at bytes = take-take (1024 * w) (1024 * (w + w)) (drop (1024 * at) bytes) (omega arith)

rest_from : (w at : ℕ) (bytes : List ℕ) → drop (1024 * w) (drop (1024 * at) bytes) ≡ drop (1024 * (at + w)) bytes
rest_from w at bytes =
    let place : 1024 * at + 1024 * w ≡ 1024 * (at + w) = omega arith in
    rw (drop-drop, place) refl

second_of_two : (w at : ℕ) (bytes : List ℕ) → drop (1024 * w) (take (1024 * (w + w)) (drop (1024 * at) bytes)) ≡ take (1024 * w) (drop (1024 * (at + w)) bytes)
second_of_two w at bytes =
    let width : 1024 * (w + w) ≡ 1024 * w + 1024 * w = omega arith in
    rw (width, drop-take, rest_from) refl

-- the tree over two neighbours of 2 ^ k whole chunks each, which are numbered from `number`
pub two_subtrees : (k number at : ℕ) (bytes : List ℕ) → 1024 * (at + 2 ^ k + 2 ^ k) ≤ length bytes
    → tree number (take (1024 * (2 ^ k + 2 ^ k)) (drop (1024 * at) bytes)) 0
    ≡ parent_value (tree number (take (1024 * 2 ^ k) (drop (1024 * at) bytes)) 0) (tree (number + 2 ^ k) (take (1024 * 2 ^ k) (drop (1024 * (at + 2 ^ k)) bytes)) 0) 0
two_subtrees k number at bytes fits =
    let w : ℕ = 2 ^ k in
    let both : List ℕ = take (1024 * (w + w)) (drop (1024 * at) bytes) in
    let one = pow_pos k in
    let len : length both ≡ 1024 * w + 1024 * w = simp (length-take, length-drop) (omega arith) in
    tree-split k number both 0 (omega arith) (omega arith) ∙ rw (first_of_two, second_of_two) refl

-- two subtrees, side by side, are one
pub subtree-merge : (k n : ℕ) (bytes : List ℕ) → 1024 * ((2 * n + 2) * 2 ^ k) ≤ length bytes
    → parent_value (subtree k (2 * n) bytes) (subtree k (2 * n + 1) bytes) 0 ≡ subtree (k + 1) n bytes
unfolding subtree
subtree-merge k n bytes fits =
    let w : ℕ = 2 ^ k in
    let double : 2 ^ (k + 1) ≡ w + w = rw add-one (two-pow-succ k) in
    let left : n * (w + w) ≡ 2 * n * w = omega arith in
    let right : (2 * n + 1) * w ≡ 2 * n * w + w = omega arith in
    rw (double, left, right) (sym (two_subtrees k (2 * n * w) (2 * n * w) bytes (omega arith)))

-- a subtree with a sibling before it, and all that is left after it
pub tree_from-merge : (k n : ℕ) (bytes : List ℕ) (flags : ℕ) → 1024 * ((2 * n + 1) * 2 ^ k) < length bytes → length bytes ≤ 1024 * ((2 * n + 2) * 2 ^ k)
    → parent_value (subtree k (2 * n) bytes) (tree_from k (2 * n + 1) bytes 0) flags ≡ tree_from (k + 1) n bytes flags
unfolding subtree tree_from
tree_from-merge k n bytes flags low high =
    let w : ℕ = 2 ^ k in
    let double : 2 ^ (k + 1) ≡ w + w = rw add-one (two-pow-succ k) in
    let left : n * (w + w) ≡ 2 * n * w = omega arith in
    let right : (2 * n + 1) * w ≡ 2 * n * w + w = omega arith in
    let at : ℕ = 2 * n * w in
    let len = length-drop (1024 * at) bytes in
    let split = tree-split k at (drop (1024 * at) bytes) flags (omega arith) (omega arith) in
    rw (double, left, right) (sym (split ∙ rw rest_from refl))

-- with no sibling before it, the same tree counts as one that is higher
pub tree_from-alone : (k n : ℕ) (bytes : List ℕ) (flags : ℕ) → tree_from k (2 * n) bytes flags ≡ tree_from (k + 1) n bytes flags
unfolding tree_from
tree_from-alone k n bytes flags =
    let w : ℕ = 2 ^ k in
    let double : 2 ^ (k + 1) ≡ w + w = rw add-one (two-pow-succ k) in
    let left : n * (w + w) ≡ 2 * n * w = omega arith in
    rw (double, left) refl

-- the value that waits for its sibling
waiting : (values : List (List ℕ)) (count : ℕ) (bytes : List ℕ) (k n : ℕ) → HasSubtrees values count bytes
    → count / 2 ^ k ≡ 2 * n + 1 → slice_index_or values k [] ≡ subtree k (2 * n) bytes
unfolding HasSubtrees
waiting values count bytes k n has is =
    let before : count / 2 ^ k - 1 ≡ 2 * n = omega arith in
    has k (omega arith) ∙ ap (λ (m : ℕ). subtree k m bytes) before

-- the subtree that the next chunks complete, one higher
pub completed-next : (values : List (List ℕ)) (count next : ℕ) (bytes : List ℕ) (k n : ℕ) → HasSubtrees values count bytes
    → count / 2 ^ k ≡ 2 * n + 1 → next / 2 ^ k ≡ 2 * n + 2 → 1024 * next ≤ length bytes
    → parent_value (slice_index_or values k []) (subtree k (2 * n + 1) bytes) 0 ≡ subtree (k + 1) n bytes
completed-next values count next bytes k n has is counted fits =
    let whole = half-fits next k (2 * n + 2) counted in
    rw (waiting values count bytes k n has is) (subtree-merge k n bytes (omega arith))

-- the tree over all that is left, one higher
pub tree_from-next : (values : List (List ℕ)) (count : ℕ) (bytes : List ℕ) (k n flags : ℕ) → HasSubtrees values count bytes
    → count / 2 ^ k ≡ 2 * n + 1 → EndsAfter count bytes
    → parent_value (slice_index_or values k []) (tree_from k (2 * n + 1) bytes 0) flags ≡ tree_from (k + 1) n bytes flags
tree_from-next values count bytes k n flags has is ends =
    let whole = half-fits count k (2 * n + 1) is in
    let above : count < (2 * n + 2) * 2 ^ k = omega (arith, half-above count k (2 * n + 1) is) in
    let one = pow_pos k in
    let some : 0 < count = omega arith in
    let more = ends.0 some in
    rw (waiting values count bytes k n has is) (tree_from-merge k n bytes flags (omega arith) (omega arith))

-- all that is left from the first byte on
pub tree_from-whole : (k : ℕ) (bytes : List ℕ) (flags : ℕ) → tree_from k 0 bytes flags ≡ tree 0 bytes flags
unfolding tree_from
tree_from-whole k bytes flags =
    let none : 0 * 2 ^ k ≡ 0 = omega arith in
    rw none refl

-- ROOT goes on no subtree that has a chunk before it
pub root_flag-some : (before : ℕ) → 0 < before → root_flag before ≡ 0
root_flag-some before some = grind (arith, nat_tests)

-- a value more at the height of the subtree that is completed
pub HasSubtrees-push : (values : List (List ℕ)) (count next : ℕ) (bytes value : List ℕ) (k : ℕ) → k < length values → HasSubtrees values count bytes
    → Completes k count next → value ≡ subtree k (count / 2 ^ k) bytes → HasSubtrees (set values k value) next bytes
unfolding HasSubtrees
HasSubtrees-push values count next bytes value k low has completes is j odd = elim (cases_order j k) [
  | inl here ↦
      let before : next / 2 ^ k - 1 ≡ count / 2 ^ k = omega (arith, completes.carried) in
      rw (here, before) (get_or-set_same values k value [] low ∙ is)
  | inr (inl below) ↦ absurd (omega (arith, completes.even_below j below))
  | inr (inr above) ↦
      let same = half-same count next k j (count / 2 ^ k) refl completes.carried completes.even above in
      let apart : j ≡ k → ⊥ = omega arith in
      get_or-set_other values k j value [] apart ∙ rw same (has j (rw (← same) odd))
]

-- bytes that come later change no whole subtree
pub HasSubtrees-append : (values : List (List ℕ)) (count : ℕ) (bytes more : List ℕ) → 1024 * count ≤ length bytes
    → HasSubtrees values count bytes → HasSubtrees values count (bytes ++ more)
unfolding HasSubtrees subtree
HasSubtrees-append values count bytes more fits has k odd =
    let n : ℕ = count / 2 ^ k - 1 in
    let q : count / 2 ^ k ≡ n + 1 = omega arith in
    let whole = half-fits count k (n + 1) q in
    let one = pow_pos k in
    let rest : length (drop (1024 * (n * 2 ^ k)) bytes) ≡ length bytes - 1024 * (n * 2 ^ k) = length-drop (1024 * (n * 2 ^ k)) bytes in
    has k odd ∙ sym (rw (drop-append-le (1024 * (n * 2 ^ k)) bytes more (omega arith), take-append-le (1024 * 2 ^ k) (drop (1024 * (n * 2 ^ k)) bytes) more (omega arith)) refl)
