use Rattle.std.proofs.Common.{take}
use Rattle.shelf_log.specs.KeriDisk.Images.{CutShort}
use Rattle.shelf_log.proofs.ShelfLogLemmas.Changes.{cut_none, change_failed, then_synced}
use Rattle.shelf_log.proofs.shelf_log.durable.cut_durably.Goals as goal

pub returns-in_err-cut-clause-cuts : goal.returns-in_err-cut-clause-cuts
returns-in_err-cut-clause-cuts g c =
    change_failed (take c.args.size) (CutShort c.args.size) (cut_none c.args.size) (g.D.Disk.shown c.args.disk.now) (g.D.Disk.shown c.cut.new.self)
    (g.met.D.Disk.only_now c.args.disk.now) c.cut.ensures.cut.time c.cut.ensures.cut.images c.from_residual.result c.from_residual.ensures.0

pub returns-clause-cuts : goal.returns-clause-cuts
returns-clause-cuts g c =
    then_synced (take c.args.size) (CutShort c.args.size) (cut_none c.args.size) (g.D.Disk.shown c.args.disk.now) (g.D.Disk.shown c.cut.new.self)
    (g.met.D.Disk.only_now c.args.disk.now) c.cut.ensures.cut.time c.cut.ensures.cut.images
    (g.D.Disk.shown c.sync.new.self) c.sync.result (g.met.D.Disk.only_now c.cut.new.self) c.in_ok-cut.ensures.cut.ok c.sync.ensures.synced
