use Rattle.std.proofs.Common.{◌^◌, arith}
use Rattle.std.proofs.Math.Nat.{zero-div}
use Rattle.blake3_hash.specs.Stack.{HasSubtrees}
use Rattle.blake3_hash.proofs.stack.Stack.new.Goals as goal

pub returns-clause-subtrees : goal.returns-clause-subtrees
unfolding HasSubtrees
returns-clause-subtrees c = λ bytes k odd. absurd (omega (arith, zero-div (2 ^ k)))
