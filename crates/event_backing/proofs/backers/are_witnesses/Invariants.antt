use Rattle.std.proofs.Common.{◌≡◌, length}
use Rattle.key_state.specs.Same.{are_witnesses}
use Rattle.event_backing.proofs.backers.are_witnesses.Given as goal

abbrev pub invariant-loop-key : goal.invariant-loop-key
invariant-loop-key l = are_witnesses l.left ≡ are_witnesses l.list

abbrev pub decreases-loop-key : goal.decreases-loop-key
decreases-loop-key l = length l.left
