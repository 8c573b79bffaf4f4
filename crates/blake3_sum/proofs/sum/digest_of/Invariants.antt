use Rattle.std.proofs.Common.{◌≡◌, ℕ, ◌+◌, ◌-◌, ◌^◌, ◌<◌, List, length}
use Rattle.std.specs.Io.KnownBytes.{Consumes}
use Rattle.blake3_hash.specs.Hasher.{Holds, total}
use Rattle.blake3_sum.proofs.sum.digest_of.Given as goal

abbrev pub invariant-pieces : goal.invariant-pieces
invariant-pieces g l = record {
  room : 0 < length l.piece;
  counted : total l.hasher + l.left ≡ 2 ^ 64 - 1;
  held : (front : List ℕ) × Holds l.hasher front × Consumes (g.R.Read.remaining l.fn.reader) (g.R.Read.remaining l.reader) front;
}

abbrev pub decreases-pieces : goal.decreases-pieces
decreases-pieces g l = l.left
