use Rattle.std.proofs.Common.{List, ℕ, ◌/◌, length, arith, length-take}
use Rattle.shelf_log.specs.KeriDisk.Images.{overwritten}
use Rattle.shelf_log.specs.declared.keri_disk.disk_call.DiskCall.TheVariants.{Wrote}
use Rattle.shelf_log.proofs.KeriDiskLemmas.Steps.{Did-then, changes, changes_part}
use Rattle.shelf_log.proofs.keri_disk.mem_disk.MemDiskDisk.write_at.Goals as goal

-- the first half
pub returns-then-next_fails-clause-written : goal.returns-then-next_fails-clause-written
returns-then-next_fails-clause-written c =
    let bytes = c.args.bytes.now in
    let did = Did-then _ c.args.self.now c.write.new.self c.fail.new.self c.in_ok-write.ensures.ok c.fail.ensures.did in
    changes_part c.args.self.now c.fail.new.self c.fail.result (λ (file : List ℕ). overwritten file c.args.offset bytes) c.args.offset (length bytes) _ (omega (arith, length-take (length bytes / 2) bytes)) did

pub returns-clause-written : goal.returns-clause-written
returns-clause-written c = changes c.args.self.now c.write-2.new.self (Wrote c.args.offset c.args.bytes.now) c.in_ok-write-2.ensures.ok
