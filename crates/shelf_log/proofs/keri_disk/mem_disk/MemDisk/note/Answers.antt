use Rattle.shelf_log.proofs.KeriDiskLemmas.Replays.{replayed_still}
use Rattle.shelf_log.proofs.keri_disk.mem_disk.MemDisk.note.Goals as goal

pub invariant_of-self : goal.invariant_of-self
invariant_of-self c =
    let disk = c.args.self.now in
    record { replayed = replayed_still disk.first disk.calls _ c.args.call disk.file.items c.push.result (c.requires disk.file.items) disk.replayed c.push.ensures.ok c.push.ensures.err }
