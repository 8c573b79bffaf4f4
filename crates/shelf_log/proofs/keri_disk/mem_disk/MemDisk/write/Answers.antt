use Rattle.std.proofs.Common.{◌≡◌, sym, ◌∙◌}
use Rattle.shelf_log.specs.KeriDisk.Images.{overwritten}
use Rattle.shelf_log.specs.declared.keri_disk.disk_call.DiskCall.TheVariants.{Wrote}
use Rattle.shelf_log.proofs.KeriDiskLemmas.Replays.{replayed}
use Rattle.shelf_log.proofs.keri_disk.mem_disk.MemDisk.write.Goals as goal

pub invariant_of-self : goal.invariant_of-self
invariant_of-self c =
    let disk = c.args.self.now in
    let bytes = c.from_vec-bytes.result in
    let same : c.args.bytes.now ≡ bytes = sym (c.from_vec-bytes.ensures ∙ c.in-Ok-from_slice.ensures.items) in
    let written : c.in-Ok.next.items ≡ overwritten disk.file.items c.args.offset bytes =
    c.in-Ok.ensures ∙ (λ i. overwritten (c.deref.ensures.value i) c.args.offset (same i)) in
    record { replayed = written ∙ replayed disk.first disk.calls _ (Wrote c.args.offset bytes) disk.file.items disk.replayed c.in-Ok-push.ensures.ok }
