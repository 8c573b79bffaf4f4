-- A change of a file with a sync behind it.
use Rattle.std.specs.Prelude.{◌≡◌, List, ℕ, Result, OnOk}
use Rattle.std.specs.Option.{option_map}
use Rattle.shelf_log.specs.KeriDisk.Images.{DiskShown, IsDurable, LeavesOnly}

-- After Ok the whole change is done, and each image is the file as it reads. At any moment a crash leaves an image of
-- before, of which any part of the change was done.
pub record ChangesDurably {E : Type 0} (whole : List ℕ → List ℕ) (part : List ℕ → List ℕ → Type 0) (old new : DiskShown) (result : Result (Unit {0}) E) : Type 0 where
  pub durable : OnOk result (IsDurable new)
  pub file : OnOk result (new.file ≡ option_map whole old.file)
  pub moments : LeavesOnly old new (λ c. (d : List ℕ) × old.images d × part d c)
