use Rattle.std.proofs.Common.{◌∙◌}
use Rattle.shelf_log.specs.declared.keri_disk.disk_call.DiskCall.TheVariants.{CutTo}
use Rattle.shelf_log.proofs.KeriDiskLemmas.Replays.{replayed}
use Rattle.shelf_log.proofs.keri_disk.mem_disk.MemDisk.cut_to.Goals as goal

pub invariant_of-self : goal.invariant_of-self
invariant_of-self c =
    let disk = c.args.self.now in
    record { replayed = c.truncate.ensures.items ∙ replayed disk.first disk.calls _ (CutTo c.args.size) disk.file.items disk.replayed c.in-Ok.ensures.ok }
