use Rattle.std.proofs.Common.{[], ◌∷◌}
use Rattle.shelf_log.specs.declared.keri_disk.disk_call.DiskCall.TheVariants.{Kept}
use Rattle.shelf_log.proofs.KeriDiskLemmas.Steps.{Did-then, keeps_kept}
use Rattle.shelf_log.proofs.keri_disk.mem_disk.MemDisk.skip.Goals as goal

pub returns-in-Ok-clause-keeps : goal.returns-in-Ok-clause-keeps
returns-in-Ok-clause-keeps c =
    keeps_kept c.args.self.now c.fail.new.self (Did-then (Kept ∷ []) c.args.self.now c.note.new.self c.fail.new.self c.in-Ok.ensures.ok c.fail.ensures.did)
