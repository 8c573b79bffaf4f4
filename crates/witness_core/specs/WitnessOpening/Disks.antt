-- Which disks are made for a shelf, why they fail, and what becomes of their files.
use Rattle.std.specs.Prelude.{◌≡◌, ◌≢◌, ◌⊎◌, ℕ, true, false, List, [], ◌∷◌, is_none, IfSome, IsSomeAnd}
use Rattle.std.specs.declared.option.Option.{Option}
use Rattle.std.specs.declared.option.Option.TheVariants.{None, Some}
use Rattle.std.specs.declared.result.Result.TheVariants.{Err}
use Rattle.lists.specs.KeriSpecs.Causes.{Rose}
use Rattle.shelf_log.specs.KeriDisk.Calls.{Keeps}
use Rattle.shelf_log.specs.KeriDisk.Images.{DiskShown, IsDurable, LeavesOnly}
use Rattle.run_status.specs.RunOutside.Makings.{AreMakings}
use Rattle.run_status.specs.RunOutside.Shown.{OutsideShown, making}
use Rattle.run_status.specs.declared.run_outside.making.MakingKind.TheVariants.{Disk, OldDisk}
use Rattle.shelf_log.specs.ShelfLog.Format.{Holds}
use Rattle.shelf_log.specs.ShelfLog.Leftover.{IsLeftover}
use Rattle.shelf_log.specs.ShelfLog.OnDisk.{IsFilledOrLeftover, IsUnfinished}
use Rattle.shelf_log.specs.declared.shelf_log.version.Version.TheVariants.{One}
use Rattle.witness_core.specs.WitnessOpening.Answers.{Answer}
use Rattle.witness_core.specs.declared.witness_opening.fault.OpeningFault.TheVariants.{DiskFault}

-- no disk was made, and that is answered
pub record MakesNone {D : Type 0} (before after : OutsideShown) (name : List ℕ) (old : Option D) (answer : Answer) : Type 0 where
  pub makings : AreMakings (making Disk name true ∷ []) before after
  pub none_old : old ≡ None
  pub answered : answer ≡ Err DiskFault

-- the shelf's disk alone was made
pub record MakesOne {D : Type 0} (before after : OutsideShown) (name : List ℕ) (old : Option D) : Type 0 where
  pub makings : AreMakings (making Disk name false ∷ []) before after
  pub none_old : old ≡ None

-- it was, and then the old one's, or that failed, which is answered: the shelf's file was to be filled
pub record MakesBoth {D : Type 0} (before after : OutsideShown) (name named : List ℕ) (old : Option D) (answer : Answer) : Type 0 where
  pub makings : AreMakings (making Disk name false ∷ making OldDisk named (is_none old) ∷ []) before after
  pub leftover : IfSome (before.stored name) IsLeftover
  pub answered : old ≡ None → answer ≡ Err DiskFault

-- What is made by these names, in order, and there is nothing else: the disk of the shelf, which there is where that came about;
-- and then the disk of the old one, only where one is named and the shelf's file is to be filled.
abbrev pub Makes : {D : Type 0} → OutsideShown → OutsideShown → List ℕ → Option (List ℕ) → Option D → Option D → Answer → Type 0
Makes before after name named None old answer = MakesNone before after name old answer
Makes before after name named (Some disk) old answer = MakesOne before after name old ⊎ IsSomeAnd named (λ n. MakesBoth before after name n old answer)

module _ {D : Type 0} (shown : D → DiskShown) where
  -- A fault of a disk is answered only where the count of one rose from zero, or where one couldn't be made and the count of
  -- the outside rose. Else each stands as it was.
  pub record HasCause (before after : OutsideShown) (disk old : Option D) (answer : Answer) : Type 0 where
    pub rose : answer ≡ Err DiskFault → Rose before.faults after.faults ⊎ IsSomeAnd disk (λ d. Rose 0 (shown d).faults) ⊎ IsSomeAnd old (λ d. Rose 0 (shown d).faults)
    pub same : answer ≢ Err DiskFault → (after.faults ≡ before.faults) × IfSome disk (λ d. (shown d).faults ≡ 0) × IfSome old (λ d. (shown d).faults ≡ 0)

  -- a disk as it was made of a file
  pub record IsMade (stored : Option (List ℕ)) (disk : D) : Type 0 where
    pub holds : (shown disk).file ≡ stored
    pub none_yet : (shown disk).faults ≡ 0

  -- a disk that was made of a file, and since then was only read
  pub record OnlyRead (stored : Option (List ℕ)) (last : D) : Type 0 where
    pub first : D
    pub is_made : IsMade stored first
    pub keeps : Keeps (shown first) (shown last)

  -- A disk that was only read and synced, and from then on was written: whatever a stop leaves has P.
  pub record LeavesSynced (first last : D) (P : List ℕ → Type 0) : Type 0 where
    pub synced : D
    pub keeps : Keeps (shown first) (shown synced)
    pub durable : IsDurable (shown synced)
    pub leaves : LeavesOnly (shown synced) (shown last) P

  -- an empty file was made a shelf
  pub record IsBegun (first last : D) : Type 0 where
    pub empty : IfSome (shown first).file (λ file. file ≡ [])
    pub leaves : LeavesSynced first last IsUnfinished

  -- A file that is empty, or that a stopped migration left, was filled with the list of an old shelf's file. A stop leaves one of the
  -- whole list, or again what a stopped migration leaves, so that the same words fill it.
  pub record IsFilled (from : Option (List ℕ)) (first last : D) : Type 0 where
    pub leftover : IfSome (shown first).file IsLeftover
    pub list : List (List ℕ)
    pub of : IfSome from (λ file. Holds One file list)
    pub leaves : LeavesSynced first last (IsFilledOrLeftover list)

  -- what becomes of the disk of a shelf: it is only read, but where its file is made a shelf, or is filled
  abbrev pub BecomesAlone : D → D → Type 0
  BecomesAlone first last = Keeps (shown first) (shown last) ⊎ IsBegun first last

  abbrev pub BecomesBeside : Option (List ℕ) → D → D → Type 0
  BecomesBeside from first last = Keeps (shown first) (shown last) ⊎ IsFilled from first last

  abbrev pub Becomes : OutsideShown → Option (List ℕ) → D → D → Type 0
  Becomes before None first last = BecomesAlone first last
  Becomes before (Some named) first last = BecomesBeside (before.stored named) first last

  -- that, from when it was made
  pub record IsLeft (before : OutsideShown) (name : List ℕ) (named : Option (List ℕ)) (last : D) : Type 0 where
    pub first : D
    pub is_made : IsMade (before.stored name) first
    pub becomes : Becomes before named first last
