use Rattle.shelf_log.proofs.KeriDiskLemmas.Steps.{syncs}
use Rattle.shelf_log.proofs.keri_disk.mem_disk.MemDiskDisk.sync.Goals as goal

pub returns-clause-synced : goal.returns-clause-synced
returns-clause-synced c = syncs c.args.self.now c.note.new.self c.in_ok-note.ensures.ok
