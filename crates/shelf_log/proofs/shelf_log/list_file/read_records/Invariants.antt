use Rattle.std.proofs.Common.{◌≡◌, ◌-◌, ◌≤◌, length}
use Rattle.shelf_log.specs.KeriDisk.Calls.{Keeps}
use Rattle.shelf_log.specs.ShelfLog.Scans.{ReadsOn}
use Rattle.shelf_log.proofs.shelf_log.list_file.read_records.Given as goal

abbrev pub invariant-loop-scan : goal.invariant-loop-scan
invariant-loop-scan g l =
    Keeps (g.D.Disk.shown l.initial.disk) (g.D.Disk.shown l.disk) × ((g.D.Disk.shown l.disk).faults ≡ (g.D.Disk.shown l.initial.disk).faults) × (l.scan.offset ≤ l.size)
    × (l.scan.version ≡ l.initial.scan.version) × (l.scan.limits ≡ l.initial.scan.limits) × (length l.window ≡ length l.initial.window) × ReadsOn (g.D.Disk.shown l.initial.disk).file l.scan

abbrev pub decreases-loop-scan : goal.decreases-loop-scan
decreases-loop-scan g l = l.size - l.scan.offset
