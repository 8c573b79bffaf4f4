use Rattle.std.proofs.Common.{ℕ}
use Rattle.sith.specs.Divisors.{IsGreatestDivisor}
use Rattle.sith.proofs.divisors.greatest_divisor.Given as goal

-- what is found of the numbers that are left is found of those given
abbrev pub invariant-loop-smaller : goal.invariant-loop-smaller
invariant-loop-smaller l = (g : ℕ) → IsGreatestDivisor l.larger l.smaller g → IsGreatestDivisor l.one l.other g

abbrev pub decreases-loop-smaller : goal.decreases-loop-smaller
decreases-loop-smaller l = l.smaller
