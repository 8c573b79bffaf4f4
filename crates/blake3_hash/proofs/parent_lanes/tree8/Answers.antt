use Rattle.std.proofs.Common.{◌≡◌, ◌∙◌, ◌+◌, ◌*◌, ◌<◌, ℕ, List, [], slice_index_or, ap, ap₂, lit<, refl, arith, length-drop}
use Rattle.std.proofs.lemmas.List.{take_all}
use Rattle.blake3_hash.specs.Chunk.{chunk_value}
use Rattle.blake3_hash.specs.Lanes.{eight_values, eight_words}
use Rattle.blake3_hash.proofs.Blocks.{whole_chunk-back, whole_chunk-front}
use Rattle.blake3_hash.proofs.Eights.{front-values, part, part-all, part-chunk, part-two}
use Rattle.blake3_hash.proofs.FourLanes.{below_eight}
use Rattle.blake3_hash.proofs.parent_lanes.tree8.Goals as goal

pub returns : goal.returns
returns c =
    let bytes = c.args.chunks.now in
    let first = c.args.first in
    let front : (i : ℕ) → i < 4 → eight_words i c.lanes4-front.result ≡ part 0 first i bytes =
    λ i h. c.lanes4-front.ensures i h ∙ ap (λ (k : List ℕ). chunk_value (first + i) k 0) (whole_chunk-front 4096 bytes i (omega arith)) ∙ part-chunk first i bytes in
    let back : (i : ℕ) → i < 4 → eight_words i c.lanes4-back.result ≡ part 0 first (4 + i) bytes =
    λ i h.
    let number : first + 4 + i ≡ first + (4 + i) = omega arith in
    c.lanes4-back.ensures i h
    ∙ ap₂ (λ (n : ℕ) (k : List ℕ). chunk_value n k 0) number (whole_chunk-back bytes _ i (take_all 4096 _ (omega (arith, length-drop 4096 bytes))))
    ∙ part-chunk first (4 + i) bytes in
    let chunk : (j : ℕ) → j < 8 → slice_index_or (eight_values c.lanes4-front.result c.lanes4-back.result) j [] ≡ part 0 first j bytes =
    below_eight (λ j. slice_index_or (eight_values c.lanes4-front.result c.lanes4-back.result) j [] ≡ part 0 first j bytes)
    (front 0 (lit< tt)) (front 1 (lit< tt)) (front 2 (lit< tt)) (front 3 (lit< tt))
    (back 0 (lit< tt)) (back 1 (lit< tt)) (back 2 (lit< tt)) (back 3 (lit< tt)) in
    let pair : (j : ℕ) → j < 4 → eight_words j c.parents4-pairs.result ≡ part 1 first (2 * j) bytes =
    λ j h. c.parents4-pairs.ensures j h
    ∙ part-two 0 first (2 * j) (2 * j) (2 * j + 1) bytes _ _ (omega arith) refl refl (chunk (2 * j) (omega arith)) (chunk (2 * j + 1) (omega arith)) in
    let of_pairs : (i : ℕ) → i < 4 → slice_index_or (eight_values c.parents4-pairs.result c.parents4-pairs.result) i [] ≡ part 1 first (2 * i) bytes =
    λ i h. front-values c.parents4-pairs.result c.parents4-pairs.result i h ∙ pair i h in
    let four : (j : ℕ) → j < 2 → eight_words j c.parents4-fours.result ≡ part 2 first (4 * j) bytes =
    λ j h. c.parents4-fours.ensures j (omega arith)
    ∙ part-two 1 first (4 * j) (2 * (2 * j)) (2 * (2 * j + 1)) bytes _ _ (omega arith) (omega arith) (omega arith) (of_pairs (2 * j) (omega arith)) (of_pairs (2 * j + 1) (omega arith)) in
    c.unpacked.ensures 0 (lit< tt) ∙ c.parents4-eight.ensures 0 (lit< tt)
    ∙ part-two 2 first 0 0 4 bytes _ _ (omega arith) refl refl (four 0 (lit< tt)) (four 1 (lit< tt))
    ∙ part-all first bytes (omega arith)
