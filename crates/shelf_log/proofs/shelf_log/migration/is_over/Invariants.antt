use Rattle.std.proofs.Common.{◌≡◌, ◌≤◌, take}
use Rattle.shelf_log.specs.ShelfLog.Format.{shelf_size}
use Rattle.shelf_log.specs.declared.shelf_log.version.Version.TheVariants.{Two}
use Rattle.shelf_log.proofs.shelf_log.migration.is_over.Given as goal

abbrev pub invariant-loop-payload : goal.invariant-loop-payload
invariant-loop-payload l = (l.size ≡ shelf_size Two (take l.payload-index l.list)) × (l.size ≤ 1073741824)
