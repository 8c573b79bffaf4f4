use Rattle.std.proofs.Common.{◌≡◌, ◌∙◌, ◌+◌, ◌<◌, ℕ, List, [], slice_index_or, ap, ap₂, lit<, arith, length-drop}
use Rattle.std.proofs.lemmas.List.{take_all}
use Rattle.blake3_hash.specs.Chunk.{chunk_value}
use Rattle.blake3_hash.specs.Lanes.{whole_chunk}
use Rattle.blake3_hash.proofs.Blocks.{whole_chunk-back, whole_chunk-front}
use Rattle.blake3_hash.proofs.FourLanes.{below_eight}
use Rattle.blake3_hash.proofs.chunk_lanes.lanes8.Goals as goal

pub returns : goal.returns
returns c =
    let chunks = c.args.chunks.now in
    let first = c.args.first in
    let front : (i : ℕ) → i < 4 → slice_index_or c.unpacked.result i [] ≡ chunk_value (first + i) (whole_chunk chunks i) 0 =
    λ i h. c.unpacked.ensures i h ∙ c.lanes4.ensures i h ∙ ap (λ (k : List ℕ). chunk_value (first + i) k 0) (whole_chunk-front 4096 chunks i (omega arith)) in
    let back : (i : ℕ) → i < 4 → slice_index_or c.unpacked-2.result i [] ≡ chunk_value (first + (4 + i)) (whole_chunk chunks (4 + i)) 0 =
    λ i h.
    let number : first + 4 + i ≡ first + (4 + i) = omega arith in
    c.unpacked-2.ensures i h ∙ c.lanes4-2.ensures i h
    ∙ ap₂ (λ (n : ℕ) (k : List ℕ). chunk_value n k 0) number (whole_chunk-back chunks _ i (take_all 4096 _ (omega (arith, length-drop 4096 chunks)))) in
    below_eight _ (front 0 (lit< tt)) (front 1 (lit< tt)) (front 2 (lit< tt)) (front 3 (lit< tt))
    (back 0 (lit< tt)) (back 1 (lit< tt)) (back 2 (lit< tt)) (back 3 (lit< tt))
