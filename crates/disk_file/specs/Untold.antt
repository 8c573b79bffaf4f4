-- What a disk over a file shows: how often it has failed, and nothing of its content. It has no bytes and no image.
use Rattle.std.specs.Prelude.{ℕ}
use Rattle.std.specs.declared.option.Option.TheVariants.{None}
use Rattle.shelf_log.specs.KeriDisk.Images.{DiskShown}
use Rattle.disk_file.specs.declared.disk_over.DiskOver.{DiskOver}

-- the file that it is over
abbrev pub file_under : {F : Type 0} → DiskOver F → F
file_under disk = disk.file

abbrev pub disk_faults : {F : Type 0} → DiskOver F → ℕ
disk_faults disk = disk.faults

abbrev pub disk_shown : {F : Type 0} → DiskOver F → DiskShown
disk_shown disk = record { file = None; images = λ c. ⊥; moment = 0; images_since = λ t c. ⊥; faults = disk_faults disk }
