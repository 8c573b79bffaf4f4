-- What stands on the disk of a shelf.
use Rattle.std.specs.Prelude.{◌≡◌, ◌⊎◌, ◌++◌, [], ◌∷◌, List, ℕ, IfSome, OnOk, Result, length}
use Rattle.std.specs.Int.{w32, to_be_bytes}
use Rattle.shelf_log.specs.KeriDisk.Images.{DiskShown, IsDurable, LeavesOnly}
use Rattle.shelf_log.specs.ShelfLog.Format.{Holds, IsNoShelf, IsSized, FailsAt, shelf_front}
use Rattle.shelf_log.specs.ShelfLog.Leftover.{IsLeftover}
use Rattle.shelf_log.specs.declared.shelf_log.version.Version.TheVariants.{Two}

-- each image is the file as it reads, and that stands for the list
abbrev pub HoldsDurably : DiskShown → List (List ℕ) → Type 0
HoldsDurably shown list = IsDurable shown × IfSome shown.file (λ file. Holds Two file list)

-- each image stands for the list
abbrev pub AllHold : DiskShown → List (List ℕ) → Type 0
AllHold shown list = (c : List ℕ) → shown.images c → Holds Two c list

-- the file stands for the list, or for it with the payload
abbrev pub HoldsEither : List (List ℕ) → List ℕ → List ℕ → Type 0
HoldsEither list payload file = Holds Two file list ⊎ Holds Two file (list ++ payload ∷ [])

-- A payload is stored: after Ok each image stands for the list with it, and at any moment for the list or for that one.
pub record Stores {E : Type 0} (list : List (List ℕ)) (payload : List ℕ) (old new : DiskShown) (result : Result (Unit {0}) E) : Type 0 where
  pub durable : OnOk result (HoldsDurably new (list ++ payload ∷ []))
  pub moments : LeavesOnly old new (HoldsEither list payload)

-- Where the closed gate of a shelf on the disk stands at the end, and the staged bytes are a payload's length, the payload and a
-- closed gate, the payload is stored.
abbrev pub StoresStaged : {E : Type 0} → ℕ → List ℕ → DiskShown → DiskShown → Result (Unit {0}) E → Type 0
StoresStaged end staged old new result = (list : List (List ℕ)) (payload : List ℕ) → HoldsDurably old list → end ≡ length (shelf_front Two list) → IsSized Two payload
    → staged ≡ to_be_bytes w32 (length payload) ++ payload ++ 0 ∷ [] → Stores list payload old new result

-- what a stop leaves of a shelf that is being made: an empty file, an empty shelf, or a file that is refused
abbrev pub IsUnfinished : List ℕ → Type 0
IsUnfinished file = (file ≡ []) ⊎ Holds Two file [] ⊎ ((offset : ℕ) × FailsAt Two file offset)

-- what a stop leaves of a list that is being brought over: no shelf, or one of the list
abbrev pub IsBroughtOver : List (List ℕ) → List ℕ → Type 0
IsBroughtOver list file = IsNoShelf Two file ⊎ Holds Two file list

-- the same of a file that a stopped migration may leave: it is such a file again, or it is a shelf of the list
abbrev pub IsFilledOrLeftover : List (List ℕ) → List ℕ → Type 0
IsFilledOrLeftover list file = IsLeftover file ⊎ Holds Two file list

-- no image is a shelf
abbrev pub NoneIsShelf : DiskShown → Type 0
NoneIsShelf shown = (c : List ℕ) → shown.images c → IsNoShelf Two c

-- a stopped migration may leave each image
abbrev pub AllLeftover : DiskShown → Type 0
AllLeftover shown = (c : List ℕ) → shown.images c → IsLeftover c

-- A list is brought over to a disk that holds no shelf: after Ok each image stands for it, and at any moment is no shelf
-- or stands for it. Where each was what a stopped migration may leave, it is that until it stands for the list.
pub record BringsOver {T E : Type 0} (list : List (List ℕ)) (old new : DiskShown) (result : Result T E) : Type 0 where
  pub durable : OnOk result (HoldsDurably new list)
  pub moments : NoneIsShelf old → LeavesOnly old new (IsBroughtOver list)
  pub leftover : AllLeftover old → LeavesOnly old new (IsFilledOrLeftover list)
