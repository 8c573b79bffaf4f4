use Rattle.std.proofs.Common.{◌≤◌, ◌-◌, length, take}
use Rattle.said_digest.specs.Hashers.{Holds, counted}
use Rattle.said_digest.specs.Replaced.{replaced}
use Rattle.said_digest.proofs.digests.said_of.Given as goal

abbrev pub invariant-pieces : goal.invariant-pieces
invariant-pieces l = record {
  within : l.at ≤ length l.bytes;
  counted : counted l.hasher ≤ l.at;
  holds : Holds l.fn.code l.hasher (take l.at (replaced l.bytes l.places));
}

abbrev pub decreases-pieces : goal.decreases-pieces
decreases-pieces l = length l.bytes - l.at
