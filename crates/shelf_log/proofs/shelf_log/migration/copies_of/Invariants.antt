use Rattle.std.proofs.Common.{◌≡◌, take}
use Rattle.shelf_log.proofs.shelf_log.migration.copies_of.Given as goal

abbrev pub invariant-loop-payload : goal.invariant-loop-payload
invariant-loop-payload l = l.copies ≡ take l.payload-index l.list
