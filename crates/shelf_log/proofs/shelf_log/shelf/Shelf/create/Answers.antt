use Rattle.std.proofs.Common.{ap, length, sym, subst, arith}
use Rattle.shelf_log.specs.KeriDisk.Images.{LeavesOnly}
use Rattle.shelf_log.specs.ShelfLog.OnDisk.{IsUnfinished}
use Rattle.shelf_log.proofs.ShelfLogLemmas.Emptied.{torn_empty}
use Rattle.shelf_log.proofs.KeriDiskLemmas.Moments.{weaker}
use Rattle.shelf_log.proofs.shelf_log.shelf.Shelf.create.Goals as goal

pub returns-in-Ok-clause-moments : goal.returns-in-Ok-clause-moments
returns-in-Ok-clause-moments g c =
    subst (λ d. LeavesOnly (g.D.Disk.shown c.args.disk) (g.D.Disk.shown d) IsUnfinished) (sym c.of_list.ensures.0)
    (weaker (g.D.Disk.shown c.args.disk) (g.D.Disk.shown c.put_durably.new.disk) _ IsUnfinished
    (λ f part. torn_empty (length c.empty_file.result) f (omega (arith, ap length c.empty_file.ensures)) part.0 (c.requires part.0 part.1) part.2) c.put_durably.ensures.puts.moments)

pub returns-in-Err-clause-moments : goal.returns-in-Err-clause-moments
returns-in-Err-clause-moments g c =
    weaker (g.D.Disk.shown c.args.disk) (g.D.Disk.shown c.put_durably.new.disk) _ IsUnfinished
    (λ f part. torn_empty (length c.empty_file.result) f (omega (arith, ap length c.empty_file.ensures)) part.0 (c.requires part.0 part.1) part.2) c.put_durably.ensures.puts.moments
