-- The ways in which the disk of a shelf is used, once it was synced.
use Rattle.std.specs.Prelude.{◌≡◌, ◌≢◌, ◌⊎◌, ℕ, List, [], ◌∷◌, is_none, IfSome}
use Rattle.std.specs.declared.option.Option.{Option}
use Rattle.std.specs.declared.option.Option.TheVariants.{None, Some}
use Rattle.std.specs.declared.result.Result.TheVariants.{Err}
use Rattle.lists.specs.KeriSpecs.Causes.{Rose}
use Rattle.shelf_log.specs.KeriDisk.Calls.{Keeps}
use Rattle.shelf_log.specs.KeriDisk.Images.{DiskShown, LeavesOnly}
use Rattle.keri_outside.specs.declared.limits.Limits.{Limits}
use Rattle.run_status.specs.RunOutside.Makings.{AreMakings}
use Rattle.run_status.specs.RunOutside.Shown.{OutsideShown, making}
use Rattle.run_status.specs.declared.run_outside.making.MakingKind.TheVariants.{OldDisk}
use Rattle.shelf_log.specs.ShelfLog.Format.{Holds}
use Rattle.shelf_log.specs.ShelfLog.OnDisk.{IsFilledOrLeftover, IsUnfinished}
use Rattle.shelf_log.specs.declared.shelf_log.version.Version.TheVariants.{One, Two}
use Rattle.witness_core.specs.WitnessOpening.Answers.{Answer, AnswersNew, AnswersRead, Opening}
use Rattle.witness_core.specs.WitnessOpening.Disks.{HasCause, OnlyRead}
use Rattle.witness_core.specs.declared.witness_opening.fault.OpeningFault.{OpeningFault}
use Rattle.witness_core.specs.declared.witness_opening.fault.OpeningFault.TheVariants.{DiskFault}

module _ {D : Type 0} (shown : D → DiskShown) (first : D) where
  -- The disk alone is handed back. A fault of it is answered only where its count rose, which else is as it was.
  pub record HandsBack (last : D) (disk old : Option D) (answer : Answer) : Type 0 where
    pub disk_is : disk ≡ Some last
    pub none_old : old ≡ None
    pub rose : answer ≡ Err DiskFault → Rose (shown first).faults (shown last).faults
    pub same : answer ≢ Err DiskFault → (shown last).faults ≡ (shown first).faults

  -- its file is read
  pub record ReadsIt (limits : Limits) (disk old : Option D) (answer : Answer) : Type 0 where
    pub last : D
    pub hands : HandsBack last disk old answer
    pub answers : IfSome (shown first).file (λ file. AnswersRead Two limits file answer)
    pub keeps : Keeps (shown first) (shown last)

  abbrev pub ReadsTo : Limits → Opening D → Type 0
  ReadsTo limits opening = ReadsIt limits opening.disk opening.old opening.answer

  -- its file, which is empty, is made a shelf
  pub record BeginsIt (disk old : Option D) (answer : Answer) : Type 0 where
    pub last : D
    pub hands : HandsBack last disk old answer
    pub answers : AnswersNew answer
    pub leaves : LeavesOnly (shown first) (shown last) IsUnfinished

  abbrev pub BeginsTo : Opening D → Type 0
  BeginsTo opening = BeginsIt opening.disk opening.old opening.answer

  -- it stays as it was, or is filled with the list of an old file
  abbrev pub IsFilledOrStays : Option (List ℕ) → D → Type 0
  IsFilledOrStays from last = Keeps (shown first) (shown last)
      ⊎ ((list : List (List ℕ)) × IfSome from (λ file. Holds One file list) × LeavesOnly (shown first) (shown last) (IsFilledOrLeftover list))

  -- The old disk of the name is made, and its list is brought over. Where that isn't done for another reason than a fault of a disk,
  -- the file stays as it was.
  pub record FillsIt (limits : Limits) (before after : OutsideShown) (named : List ℕ) (disk old : Option D) (answer : Answer) : Type 0 where
    pub last : D
    pub disk_is : disk ≡ Some last
    pub makings : AreMakings (making OldDisk named (is_none old) ∷ []) before after
    pub answered : old ≡ None → answer ≡ Err DiskFault
    pub answers : IfSome (before.stored named) (λ file. AnswersRead One limits file answer)
    pub cause : HasCause shown before after disk old answer
    pub filled : IsFilledOrStays (before.stored named) last
    pub kept : (fault : OpeningFault) → answer ≡ Err fault → fault ≢ DiskFault → Keeps (shown first) (shown last)
    pub old_stays : IfSome old (OnlyRead shown (before.stored named))

  abbrev pub FillsTo : Limits → OutsideShown → OutsideShown → List ℕ → Opening D → Type 0
  FillsTo limits before after named opening = FillsIt limits before after named opening.disk opening.old opening.answer
