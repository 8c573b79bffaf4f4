-- What calls of a disk in memory do to its file, and what a crash may leave of it.
use Rattle.std.specs.Prelude.{◌≡◌, ℕ, List, [], ◌∷◌, length, take}
use Rattle.shelf_log.specs.KeriDisk.Images.{overwritten, Torn, CutShort}
use Rattle.shelf_log.specs.declared.keri_disk.disk_call.DiskCall.{DiskCall}
use Rattle.shelf_log.specs.declared.keri_disk.disk_call.DiskCall.TheVariants.{Kept, Synced, Wrote, CutTo}

-- the file after a call
abbrev pub file_after : DiskCall → List ℕ → List ℕ
file_after Kept file = file
file_after Synced file = file
file_after (Wrote offset bytes) file = overwritten file offset bytes
file_after (CutTo size) file = take size file

-- the file after calls
abbrev pub file_of : List ℕ → List DiskCall → List ℕ
file_of file [] = file
file_of file (call ∷ calls) = file_of (file_after call file) calls

-- What a crash after a call may leave, of an image and the file before it: any part of a write or a cut, and of a sync the file.
abbrev pub IsLeftBy : DiskCall → List ℕ → List ℕ → List ℕ → Type 0
IsLeftBy Kept file old new = new ≡ old
IsLeftBy Synced file old new = new ≡ file
IsLeftBy (Wrote offset bytes) file old new = Torn offset (length bytes) old new
IsLeftBy (CutTo size) file old new = CutShort size old new

-- the same after calls
abbrev pub IsLeftByAll : List DiskCall → List ℕ → List ℕ → List ℕ → Type 0
IsLeftByAll [] file old new = new ≡ old
IsLeftByAll (call ∷ calls) file old new = (mid : List ℕ) × IsLeftBy call file old mid × IsLeftByAll calls (file_after call file) mid new
