-- The images of the three shapes.
use Rattle.std.specs.Prelude.{ℕ, List, [], ◌∷◌, length, take, replicate}
use Rattle.shelf_log.specs.KeriDisk.Images.{overwritten}
use Rattle.shelf_log.specs.KeriDisk.Replay.{file_after}
use Rattle.shelf_log.specs.declared.keri_disk.disk_call.DiskCall.{DiskCall}
use Rattle.shelf_log.specs.declared.keri_disk.disk_call.DiskCall.TheVariants.{Kept, Synced, Wrote, CutTo}
use Rattle.shelf_log.specs.declared.keri_disk.shape.Shape.{Shape}
use Rattle.shelf_log.specs.declared.keri_disk.shape.Shape.TheVariants.{Whole, Lost, Ones}

-- an image after a write at an offset, which is done, or isn't, or leaves bytes 1
abbrev pub left_of_write : Shape → List ℕ → ℕ → List ℕ → List ℕ
left_of_write Whole image offset bytes = overwritten image offset bytes
left_of_write Lost image offset bytes = image
left_of_write Ones image offset bytes = overwritten image offset (replicate (length bytes) 1)

-- an image after a cut to a size, which is done or isn't
abbrev pub left_of_cut : Shape → List ℕ → ℕ → List ℕ
left_of_cut Whole image size = take size image
left_of_cut Lost image size = image
left_of_cut Ones image size = take size image

-- the image of the shape after a call, from that and the file before it
abbrev pub image_after : Shape → DiskCall → List ℕ → List ℕ → List ℕ
image_after shape Kept file image = image
image_after shape Synced file image = file
image_after shape (Wrote offset bytes) file image = left_of_write shape image offset bytes
image_after shape (CutTo size) file image = left_of_cut shape image size

-- the same after calls
abbrev pub image_of : Shape → List ℕ → List ℕ → List DiskCall → List ℕ
image_of shape file image [] = image
image_of shape file image (call ∷ calls) = image_of shape (file_after call file) (image_after shape call file image) calls
