use Rattle.std.proofs.Common.{length}
use Rattle.shelf_log.specs.ShelfLog.Scans.{GoesThrough}
use Rattle.shelf_log.proofs.shelf_log.scan.Scan.take_window.Given as goal

abbrev pub invariant-loop-payload : goal.invariant-loop-payload
invariant-loop-payload l = GoesThrough l.window l.rest l.initial.self l.self

abbrev pub decreases-loop-payload : goal.decreases-loop-payload
decreases-loop-payload l = length l.rest
