use Rattle.std.proofs.Common.{◌≡◌, ◌+◌, length}
use Rattle.blake3_hash.specs.Hasher.{total}
use Rattle.rows_values.proofs.values.digests.in_pieces.Given as goal

abbrev pub invariant-pieces : goal.invariant-pieces
invariant-pieces l = total l.hasher + length l.rest ≡ length l.bytes

abbrev pub decreases-pieces : goal.decreases-pieces
decreases-pieces l = length l.rest
