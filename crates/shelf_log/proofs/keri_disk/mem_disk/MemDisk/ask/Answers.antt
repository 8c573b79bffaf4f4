use Rattle.shelf_log.proofs.KeriDiskLemmas.Steps.{keeps_kept}
use Rattle.shelf_log.proofs.keri_disk.mem_disk.MemDisk.ask.Goals as goal

pub returns-clause-keeps : goal.returns-clause-keeps
returns-clause-keeps c = keeps_kept c.args.self.now c.note.new.self c.in_ok-note.ensures.ok
