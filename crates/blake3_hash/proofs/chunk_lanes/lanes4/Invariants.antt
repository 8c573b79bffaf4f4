use Rattle.std.proofs.Common.{◌≡◌, ℕ, ◌+◌, ◌<◌}
use Rattle.blake3_hash.specs.Chunk.{value_after}
use Rattle.blake3_hash.specs.Lanes.{eight_words, whole_chunk}
use Rattle.blake3_hash.proofs.chunk_lanes.lanes4.Given as goal

abbrev pub invariant-blocks-2 : goal.invariant-blocks-2
invariant-blocks-2 l = (j : ℕ) → j < 4 → eight_words j l.value ≡ value_after (l.first + j) (whole_chunk l.chunks j) l.n
