-- A file that is written from behind its first byte.
use Rattle.std.specs.Prelude.{◌≡◌, ◌++◌, ◌∷◌, [], List, ℕ, slice_get, IsSomeAnd, IfSome, OnOk, Result, drop}
use Rattle.std.specs.Option.{option_map}
use Rattle.shelf_log.specs.KeriDisk.Images.{DiskShown, IsDurable, LeavesOnly}
use Rattle.shelf_log.specs.ShelfLog.Format.{mark, records}
use Rattle.shelf_log.specs.declared.shelf_log.version.Version.TheVariants.{Two}

-- its first byte is 0, so it is no shelf
abbrev pub IsBlank : List ℕ → Type 0
IsBlank file = IsSomeAnd (slice_get file 0) (λ first. first ≡ 0)

abbrev pub AllBlank : DiskShown → Type 0
AllBlank shown = (c : List ℕ) → shown.images c → IsBlank c

-- the bytes are written behind the others, and until then nothing is a shelf
pub record Extends {T E : Type 0} (bytes : List ℕ) (old new : DiskShown) (result : Result T E) : Type 0 where
  pub file : OnOk result (new.file ≡ option_map (λ file. file ++ bytes) old.file)
  pub blank : AllBlank old → AllBlank new
  pub moments : AllBlank old → LeavesOnly old new IsBlank

-- a shelf of the list, but for its first byte
abbrev pub blank_file : List (List ℕ) → List ℕ
blank_file list = 0 ∷ drop 1 (mark Two) ++ records list ++ 0 ∷ []

-- all of it is written and synced
pub record WritesBehind {T E : Type 0} (list : List (List ℕ)) (old new : DiskShown) (result : Result T E) : Type 0 where
  pub durable : OnOk result (IsDurable new)
  pub file : OnOk result (IfSome new.file (λ file. file ≡ blank_file list))
  pub moments : AllBlank old → LeavesOnly old new IsBlank
