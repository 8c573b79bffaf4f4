use Rattle.std.proofs.Common.{ℕ, List, length}
use Rattle.json_tree.specs.Fronts.{Takes}
use Rattle.json_tree.specs.Strings.{AreChars}
use Rattle.json_tree.proofs.string.after_chars.Given as goal

-- the characters at the front of what is left are the last of all of them
abbrev pub invariant-loop-more : goal.invariant-loop-more
invariant-loop-more l = (end : List ℕ) → Takes AreChars l.rest end → Takes AreChars l.bytes end

abbrev pub decreases-loop-more : goal.decreases-loop-more
decreases-loop-more l = length l.rest
