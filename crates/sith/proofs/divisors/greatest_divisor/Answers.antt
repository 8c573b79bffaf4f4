use Rattle.sith.proofs.DivisorSteps.{from_rest, from_zero}
use Rattle.sith.proofs.divisors.greatest_divisor.Goals as goal

pub loop-smaller-preserved : goal.loop-smaller-preserved
loop-smaller-preserved c = λ g divides. c.loop-smaller.invariant g (from_rest _ _ g divides)

pub returns : goal.returns
returns c = c.loop-smaller.invariant _ (from_zero _ _ c.loop-smaller-test.false)
