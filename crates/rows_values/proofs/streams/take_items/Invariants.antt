use Rattle.std.proofs.Common.{◌≡◌}
use Rattle.rows_values.specs.Fed.{fed}
use Rattle.rows_values.proofs.streams.take_items.Given as goal

-- nothing is fed here
abbrev pub invariant-items : goal.invariant-items
invariant-items l = fed l.reader ≡ fed l.fn.reader
