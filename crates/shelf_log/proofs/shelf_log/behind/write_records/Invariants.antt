use Rattle.std.proofs.Common.{◌≡◌, take, length}
use Rattle.shelf_log.specs.ShelfLog.Format.{records, shelf_front}
use Rattle.shelf_log.specs.declared.shelf_log.version.Version.TheVariants.{Two}
use Rattle.shelf_log.proofs.ShelfLogLemmas.Blanks.{ExtendsSoFar}
use Rattle.shelf_log.proofs.shelf_log.behind.write_records.Given as goal

-- the records so far were written
abbrev pub invariant-loop-payload : goal.invariant-loop-payload
invariant-loop-payload g l =
    (l.offset ≡ length (shelf_front Two (take l.payload-index l.list))) × ((g.D.Disk.shown l.disk).faults ≡ (g.D.Disk.shown l.initial.disk).faults)
    × ExtendsSoFar (records (take l.payload-index l.list)) (g.D.Disk.shown l.initial.disk) (g.D.Disk.shown l.disk)
