use Rattle.std.proofs.Common.{◌≡◌, take, min}
use Rattle.sith.specs.Terms.{clause_size}
use Rattle.sith.proofs.rules.clause_size.Given as goal

-- the indices so far
abbrev pub invariant-loop-term : goal.invariant-loop-term
invariant-loop-term l = l.sum ≡ min (clause_size (take l.term-index l.terms)) 65536
