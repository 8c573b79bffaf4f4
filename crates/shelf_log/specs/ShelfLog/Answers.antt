-- What the calls of a shelf refuse, and what causes that.
use Rattle.std.specs.Prelude.{◌≡◌, ◌≢◌, ◌⊎◌, ◌<◌, ◌+◌, ◌||◌, ℕ, Bool, List, length, nat_lt, nat_le, if◌then◌else◌, Result}
use Rattle.std.specs.declared.option.Option.{Option}
use Rattle.std.specs.declared.option.Option.TheVariants.{None, Some}
use Rattle.std.specs.declared.result.Result.TheVariants.{Ok, Err}
use Rattle.lists.specs.KeriSpecs.Causes.{Rose}
use Rattle.keri_outside.specs.declared.limits.Limits.{Limits}
use Rattle.shelf_log.specs.KeriDisk.Images.{DiskShown}
use Rattle.shelf_log.specs.ShelfLog.Format.{Holds, FailsAt, IsNoShelf, shelf_size}
use Rattle.shelf_log.specs.declared.shelf_log.version.Version.{Version}
use Rattle.shelf_log.specs.declared.shelf_log.version.Version.TheVariants.{Two}
use Rattle.shelf_log.specs.declared.shelf_log.fault.ShelfFault.{ShelfFault}
use Rattle.shelf_log.specs.declared.shelf_log.fault.ShelfFault.TheVariants.{DiskFault, NotAShelf, LimitReached, Broken, OutOfMemory}

-- the list has more records or more bytes than a shelf may have
abbrev pub IsOver : Version → Limits → List (List ℕ) → Type 0
IsOver version limits list = (limits.records < length list) ⊎ (limits.shelf_bytes < shelf_size version list)

-- A fault of the disk is answered only where its count of faults rose, and else the count is as it was.
pub record HasDiskCause (old new : DiskShown) (fault : ShelfFault) : Type 0 where
  pub rose : fault ≡ DiskFault → Rose old.faults new.faults
  pub same : fault ≢ DiskFault → new.faults ≡ old.faults

-- What a call reads of a file, where the disk shows it: the list that it stands for, unless that has too many records or bytes, or
-- the offset at which it shows first that it is no shelf. Nothing else is refused but for the disk and for want of memory.
abbrev pub Reads : Version → Limits → List ℕ → Result (List (List ℕ)) ShelfFault → Type 0
Reads version limits file (Ok list) = Holds version file list × (IsOver version limits list → ⊥)
Reads version limits file (Err (NotAShelf offset)) = FailsAt version file offset × IsNoShelf version file
Reads version limits file (Err LimitReached) = (list : List (List ℕ)) × Holds version file list × IsOver version limits list
Reads version limits file (Err Broken) = ⊥
Reads version limits file (Err DiskFault) = Unit {0}
Reads version limits file (Err OutOfMemory) = Unit {0}

-- why a payload of so many bytes isn't added to the list: the shelf's disk failed before, or there is no room
abbrev pub refusal : Bool → Limits → List (List ℕ) → ℕ → Option ShelfFault
refusal broken limits list n = if broken then Some Broken
    else if nat_le limits.records (length list) || nat_lt limits.shelf_bytes (shelf_size Two list + 5 + n) then Some LimitReached
    else None

-- A call answers a refusal where there is one, and else none but a fault of the disk or want of memory.
abbrev pub Answers : Option ShelfFault → Result (Unit {0}) ShelfFault → Type 0
Answers (Some fault) result = result ≡ Err fault
Answers None (Ok _) = Unit {0}
Answers None (Err fault) = (fault ≡ DiskFault) ⊎ (fault ≡ OutOfMemory)

-- what a migration refuses: a list that is over the limits, and else nothing but for the disk and for want of memory
abbrev pub MigrationRefuses : Limits → List (List ℕ) → ShelfFault → Type 0
MigrationRefuses limits list LimitReached = IsOver Two limits list
MigrationRefuses limits list DiskFault = IsOver Two limits list → ⊥
MigrationRefuses limits list OutOfMemory = IsOver Two limits list → ⊥
MigrationRefuses limits list (NotAShelf offset) = ⊥
MigrationRefuses limits list Broken = ⊥
