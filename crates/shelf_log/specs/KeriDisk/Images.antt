-- What a disk shows of its file, and what a crash may leave of it.
use Rattle.std.specs.Prelude.{◌≡◌, ◌⊎◌, ℕ, ◌+◌, ◌≤◌, min, max, List, ◌++◌, length, take, drop}
use Rattle.std.specs.declared.option.Option.{Option}
use Rattle.std.specs.declared.option.Option.TheVariants.{Some}

-- What a disk shows: the bytes that a read gives; its images, which are the contents that a crash at this moment may
-- leave; the moment, as a number that doesn't fall; the images of all moments from one on; how often it has failed.
-- A disk in memory shows all of it. A real one shows neither bytes nor images.
pub record DiskShown : Type 1 where
  pub file : Option (List ℕ)
  pub images : List ℕ → Type 0
  pub moment : ℕ
  pub images_since : ℕ → List ℕ → Type 0
  pub faults : ℕ

-- a file with these bytes at an offset in it or at its end
abbrev pub overwritten : List ℕ → ℕ → List ℕ → List ℕ
overwritten file offset bytes = take offset file ++ bytes ++ drop (offset + length bytes) file

-- What may be left of a write of n bytes at an offset: any bytes in its range and past the old end, all else as before, and a
-- size that is the old one, the new one, or one between.
pub record Torn (offset n : ℕ) (old new : List ℕ) : Type 0 where
  pub before : take (min offset (length old)) new ≡ take offset old
  pub after : drop (offset + n) new ≡ drop (offset + n) old
  pub no_shorter : length old ≤ length new
  pub no_longer : length new ≤ max (length old) (offset + n)

-- what may be left of a cut to a size: a front of the file that is no shorter than that, or than it was
pub record CutShort (size : ℕ) (old new : List ℕ) : Type 0 where
  pub front : take (length new) old ≡ new
  pub no_shorter : min size (length old) ≤ length new

-- each image is the file as it reads
abbrev pub IsDurable : DiskShown → Type 0
IsDurable shown = (c : List ℕ) → shown.images c → shown.file ≡ Some c

-- Each content that a crash may have left at a moment from the first of these two on has P. For a run that began earlier,
-- what a crash may have left since is what it may have left before, or has P.
pub record LeavesOnly (old new : DiskShown) (P : List ℕ → Type 0) : Type 0 where
  pub later : old.moment ≤ new.moment
  pub each : (c : List ℕ) → new.images_since old.moment c → P c
  pub before : (t : ℕ) (c : List ℕ) → t ≤ old.moment → new.images_since t c → old.images_since t c ⊎ P c
