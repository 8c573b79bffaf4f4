use Rattle.std.proofs.Common.{◌+◌, ◌≤◌, length}
use Rattle.rows_values.specs.Fed.{fed}
use Rattle.rows_values.proofs.streams.feed_pieces.Given as goal

-- what was fed and what is left are not more than all
abbrev pub invariant-pieces : goal.invariant-pieces
invariant-pieces l = fed l.reader + length l.rest ≤ length l.bytes

abbrev pub decreases-pieces : goal.decreases-pieces
decreases-pieces l = length l.rest
