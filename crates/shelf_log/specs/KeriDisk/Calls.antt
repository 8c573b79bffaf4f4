-- What each call of a disk does to its file, and to what a crash may leave.
use Rattle.std.specs.Prelude.{◌≡◌, ◌⊎◌, ℕ, ◌+◌, ◌≤◌, List, length, take, drop, Result, OnOk, OnErr}
use Rattle.std.specs.Option.{option_map}
use Rattle.std.specs.declared.option.Option.{Option}
use Rattle.std.specs.declared.option.Option.TheVariants.{None, Some}
use Rattle.shelf_log.specs.KeriDisk.Images.{DiskShown, IsDurable}

-- a range of n bytes from an offset on lies in the file, where the disk shows it
abbrev pub IsInFile : ℕ → ℕ → Option (List ℕ) → Type 0
IsInFile offset n None = Unit {0}
IsInFile offset n (Some file) = offset + n ≤ length file

-- the number is the size of the file, where the disk shows it
abbrev pub IsSizeOf : Option (List ℕ) → ℕ → Type 0
IsSizeOf None size = Unit {0}
IsSizeOf (Some file) size = size ≡ length file

-- the bytes are those of the file from an offset on, where the disk shows it
abbrev pub AreBytesAt : Option (List ℕ) → ℕ → List ℕ → Type 0
AreBytesAt None offset bytes = Unit {0}
AreBytesAt (Some file) offset bytes = bytes ≡ take (length bytes) (drop offset file)

-- Time goes on: what a crash since an earlier moment may have left is what it may have left before, or may leave now.
pub record Elapses (old new : DiskShown) : Type 0 where
  pub later : old.moment ≤ new.moment
  pub nothing_else : (t : ℕ) (c : List ℕ) → t ≤ old.moment → new.images_since t c → old.images_since t c ⊎ new.images c
  pub keeps : (t : ℕ) (c : List ℕ) → t ≤ old.moment → old.images_since t c → new.images_since t c

-- Calls that change no byte and no size, and add no image: what a crash since an earlier moment may have left is what it may
-- have left before.
pub record Keeps (old new : DiskShown) : Type 0 where
  pub file : new.file ≡ old.file
  pub images : (c : List ℕ) → new.images c → old.images c
  pub later : old.moment ≤ new.moment
  pub nothing_new : (t : ℕ) (c : List ℕ) → t ≤ old.moment → new.images_since t c → old.images_since t c
  pub keeps : (t : ℕ) (c : List ℕ) → t ≤ old.moment → old.images_since t c → new.images_since t c

-- a sync that came about: each image is the file as it reads
pub record Syncs {E : Type 0} (old new : DiskShown) (result : Result (Unit {0}) E) : Type 0 where
  pub keeps : Keeps old new
  pub durable : OnOk result (IsDurable new)

-- the file after a step of the file before, where the disk shows it
abbrev pub Becomes : (List ℕ → List ℕ → Type 0) → Option (List ℕ) → Option (List ℕ) → Type 0
Becomes step None new = new ≡ None
Becomes step (Some old) new = (file : List ℕ) × (new ≡ Some file) × step old file

-- A call that changes the file, the whole of it, or where it failed any part of that. Each image afterwards is one of
-- before of which any part of the change was done.
pub record Changes {E : Type 0} (whole : List ℕ → List ℕ) (part : List ℕ → List ℕ → Type 0) (old new : DiskShown) (result : Result (Unit {0}) E) : Type 0 where
  pub ok : OnOk result (new.file ≡ option_map whole old.file)
  pub err : OnErr result (Becomes part old.file new.file)
  pub images : (c : List ℕ) → new.images c → (d : List ℕ) × old.images d × part d c
  pub time : Elapses old new
