-- What a disk in memory shows: it keeps what its file held first, and what each of its calls did.
use Rattle.std.specs.Prelude.{◌≡◌, ℕ, ◌≤◌, List, ◌++◌, length, take}
use Rattle.std.specs.declared.option.Option.TheVariants.{Some}
use Rattle.shelf_log.specs.KeriDisk.Images.{DiskShown}
use Rattle.shelf_log.specs.KeriDisk.Replay.{file_of, IsLeftByAll}
use Rattle.shelf_log.specs.KeriDisk.Shapes.{image_of}
use Rattle.shelf_log.specs.declared.keri_disk.disk_call.DiskCall.{DiskCall}
use Rattle.shelf_log.specs.declared.keri_disk.mem_disk.MemDisk.{MemDisk}
use Rattle.shelf_log.specs.declared.keri_disk.shape.Shape.{Shape}

-- the file just after its first n calls, and its images then
abbrev pub file_at : MemDisk → ℕ → List ℕ
file_at disk n = file_of disk.first (take n disk.calls)

abbrev pub images_at : MemDisk → ℕ → List ℕ → Type 0
images_at disk n c = IsLeftByAll (take n disk.calls) disk.first disk.first c

-- the one of this shape
abbrev pub image_at : MemDisk → Shape → ℕ → List ℕ
image_at disk shape n = image_of shape disk.first disk.first (take n disk.calls)

abbrev pub mem_shown : MemDisk → DiskShown
mem_shown disk = record {
  file = Some disk.file.items;
  images = images_at disk (length disk.calls);
  moment = length disk.calls;
  images_since = λ t c. (n : ℕ) × (t ≤ n) × (n ≤ length disk.calls) × images_at disk n c;
  faults = disk.faults;
}

-- it did these calls more
pub record Did (more : List DiskCall) (old new : MemDisk) : Type 0 where
  pub first : new.first ≡ old.first
  pub calls : new.calls ≡ old.calls ++ more
