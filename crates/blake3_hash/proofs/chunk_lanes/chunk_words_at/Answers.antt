use Rattle.std.proofs.Common.{◌≡◌, ◌∙◌, ◌+◌, ◌*◌, ℕ, List, [], ◌∷◌, slice_index, ap, arith}
use Rattle.blake3_hash.specs.Chunk.{word_at}
use Rattle.blake3_hash.proofs.FourLanes.{below_four}
use Rattle.blake3_hash.proofs.chunk_lanes.chunk_words_at.Goals as goal

pub returns : goal.returns
returns c j k hj hk =
    let chunks = c.args.chunks.now in
    let i = c.args.i in
    let same : (m n : ℕ) → m ≡ n → word_at chunks m ≡ word_at chunks n = λ m n is. ap (word_at chunks) is in
    let row = below_four (λ (j : ℕ). slice_index (
    slice_index c.words_at-a.result k ∷ slice_index c.words_at-b.result k ∷ slice_index c.words_at-c.result k ∷ slice_index c.words_at-d.result k ∷ []) j
    ≡ word_at chunks (1024 * j + (i + 4 * k)))
    (c.words_at-a.ensures.words k hk ∙ same _ _ (omega arith))
    (c.words_at-b.ensures.words k hk ∙ same _ _ (omega arith))
    (c.words_at-c.ensures.words k hk ∙ same _ _ (omega arith))
    (c.words_at-d.ensures.words k hk ∙ same _ _ (omega arith)) in
    ap (λ (l : List ℕ). slice_index l j) (c.transposed.ensures k hk) ∙ row j hj
