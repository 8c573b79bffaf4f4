use Rattle.std.proofs.Common.{◌≡◌, ◌∙◌, ◌+◌, ◌*◌, ◌≤◌, ℕ, arith, lit<}
use Rattle.blake3_hash.specs.Chunk.{block, block_words, word_at}
use Rattle.blake3_hash.specs.Lanes.{whole_chunk}
use Rattle.blake3_hash.proofs.Blocks.{word_at-block}
use Rattle.blake3_hash.proofs.chunk_lanes.block_words_at.Goals as goal

pub returns : goal.returns
unfolding block_words
returns c j h =
    let chunks = c.args.chunks.now in
    let n = c.args.n in
    let word : (i m : ℕ) → i + 4 ≤ 64 → m ≡ 1024 * j + (64 * n + i) → word_at chunks m ≡ word_at (block (whole_chunk chunks j) n) i =
    λ i m low is. word_at-block chunks j n i m low c.requires.inside is in
    rw (
      c.chunk_words_at-a.ensures j 0 h (lit< tt) ∙ word 0 _ (omega arith) (omega arith),
      c.chunk_words_at-a.ensures j 1 h (lit< tt) ∙ word 4 _ (omega arith) (omega arith),
      c.chunk_words_at-a.ensures j 2 h (lit< tt) ∙ word 8 _ (omega arith) (omega arith),
      c.chunk_words_at-a.ensures j 3 h (lit< tt) ∙ word 12 _ (omega arith) (omega arith),
      c.chunk_words_at-b.ensures j 0 h (lit< tt) ∙ word 16 _ (omega arith) (omega arith),
      c.chunk_words_at-b.ensures j 1 h (lit< tt) ∙ word 20 _ (omega arith) (omega arith),
      c.chunk_words_at-b.ensures j 2 h (lit< tt) ∙ word 24 _ (omega arith) (omega arith),
      c.chunk_words_at-b.ensures j 3 h (lit< tt) ∙ word 28 _ (omega arith) (omega arith),
      c.chunk_words_at-c.ensures j 0 h (lit< tt) ∙ word 32 _ (omega arith) (omega arith),
      c.chunk_words_at-c.ensures j 1 h (lit< tt) ∙ word 36 _ (omega arith) (omega arith),
      c.chunk_words_at-c.ensures j 2 h (lit< tt) ∙ word 40 _ (omega arith) (omega arith),
      c.chunk_words_at-c.ensures j 3 h (lit< tt) ∙ word 44 _ (omega arith) (omega arith),
      c.chunk_words_at-d.ensures j 0 h (lit< tt) ∙ word 48 _ (omega arith) (omega arith),
      c.chunk_words_at-d.ensures j 1 h (lit< tt) ∙ word 52 _ (omega arith) (omega arith),
      c.chunk_words_at-d.ensures j 2 h (lit< tt) ∙ word 56 _ (omega arith) (omega arith),
      c.chunk_words_at-d.ensures j 3 h (lit< tt) ∙ word 60 _ (omega arith) (omega arith),
    )
