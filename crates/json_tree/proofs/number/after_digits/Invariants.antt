use Rattle.std.proofs.Common.{ℕ, List, length}
use Rattle.json_tree.specs.Fronts.{TakesLongest}
use Rattle.json_tree.specs.Numbers.{AreDigits}
use Rattle.json_tree.proofs.number.after_digits.Given as goal

-- the digits at the front of what is left are the last of all of them
abbrev pub invariant-loop-more : goal.invariant-loop-more
invariant-loop-more l = (end : List ℕ) → TakesLongest AreDigits l.rest end → TakesLongest AreDigits l.bytes end

abbrev pub decreases-loop-more : goal.decreases-loop-more
decreases-loop-more l = length l.rest
