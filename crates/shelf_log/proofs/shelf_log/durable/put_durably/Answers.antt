use Rattle.std.proofs.Common.{length}
use Rattle.shelf_log.specs.KeriDisk.Images.{overwritten, Torn}
use Rattle.shelf_log.proofs.ShelfLogLemmas.Changes.{torn_none, change_failed, then_synced}
use Rattle.shelf_log.proofs.shelf_log.durable.put_durably.Goals as goal

pub returns-in_err-write_at-clause-puts : goal.returns-in_err-write_at-clause-puts
returns-in_err-write_at-clause-puts g c =
    change_failed (λ file. overwritten file c.args.offset c.args.bytes.now) (Torn c.args.offset (length c.args.bytes.now)) (torn_none c.args.offset (length c.args.bytes.now)) (g.D.Disk.shown c.args.disk.now) (g.D.Disk.shown c.write_at.new.self)
    (g.met.D.Disk.only_now c.args.disk.now) c.write_at.ensures.written.time c.write_at.ensures.written.images c.from_residual.result c.from_residual.ensures.0

pub returns-clause-puts : goal.returns-clause-puts
returns-clause-puts g c =
    then_synced (λ file. overwritten file c.args.offset c.args.bytes.now) (Torn c.args.offset (length c.args.bytes.now)) (torn_none c.args.offset (length c.args.bytes.now)) (g.D.Disk.shown c.args.disk.now) (g.D.Disk.shown c.write_at.new.self)
    (g.met.D.Disk.only_now c.args.disk.now) c.write_at.ensures.written.time c.write_at.ensures.written.images
    (g.D.Disk.shown c.sync.new.self) c.sync.result (g.met.D.Disk.only_now c.write_at.new.self) c.in_ok-write_at.ensures.written.ok c.sync.ensures.synced
