use Rattle.std.proofs.Common.{arith, refl}
use Rattle.blake3_hash.specs.Hasher.{HasBytes, Holds}
use Rattle.blake3_hash.proofs.hasher.Hasher.new.Goals as goal

pub returns-clause-holds : goal.returns-clause-holds
unfolding Holds HasBytes
returns-clause-holds c = ((omega (arith, c.new.ensures.empty), c.new.ensures.subtrees _, rw c.new.ensures.empty refl), λ some. absurd (omega (arith, c.new.ensures.empty)))
