use Rattle.std.proofs.Common.{◌≡◌}
use Rattle.blake3_hash.specs.Chunk.{value_after}
use Rattle.blake3_hash.proofs.chunk.chunk_value.Given as goal

abbrev pub invariant-blocks-2 : goal.invariant-blocks-2
invariant-blocks-2 l = l.value ≡ value_after l.number l.chunk l.n
