use Rattle.shelf_log.specs.declared.keri_disk.disk_call.DiskCall.TheVariants.{CutTo}
use Rattle.shelf_log.proofs.KeriDiskLemmas.Steps.{changes}
use Rattle.shelf_log.proofs.keri_disk.mem_disk.MemDiskDisk.cut.Goals as goal

pub returns-clause-cut : goal.returns-clause-cut
returns-clause-cut c = changes c.args.self.now c.cut_to.new.self (CutTo c.args.size) c.in_ok-cut_to.ensures.ok
