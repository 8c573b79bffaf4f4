-- What opening a shelf comes to.
use Rattle.std.specs.Prelude.{◌≡◌, ◌≢◌, ℕ, Bool, false, List, IfSome}
use Rattle.std.specs.declared.option.Option.{Option}
use Rattle.std.specs.declared.result.Result.TheVariants.{Err}
use Rattle.shelf_log.specs.KeriDisk.Images.{DiskShown}
use Rattle.keri_outside.specs.declared.limits.Limits.{Limits}
use Rattle.run_status.specs.RunOutside.Shown.{OutsideShown}
use Rattle.shelf_log.specs.ShelfLog.OnDisk.{AllHold}
use Rattle.witness_core.specs.WitnessOpening.Answers.{Answer, Answers, Opening}
use Rattle.witness_core.specs.WitnessOpening.Disks.{HasCause, IsLeft, Makes, OnlyRead}
use Rattle.witness_core.specs.declared.witness_opening.fault.OpeningFault.{OpeningFault}
use Rattle.witness_core.specs.declared.witness_opening.fault.OpeningFault.TheVariants.{DiskFault}

-- The shelf of a name was opened, with an old one where that is named, over an outside that showed this before and after it: these
-- disks are handed back, where they were made, and this is answered. Where it is a fault, but of no disk, the file of the name was only
-- read.
pub record IsOpening {D : Type 0} (shown : D → DiskShown) (limits : Limits) (before after : OutsideShown) (name : List ℕ) (named : Option (List ℕ)) (disk old : Option D) (answer : Answer) : Type 0 where
  pub answers : Answers limits before name named answer
  pub makes : Makes before after name named disk old answer
  pub cause : HasCause shown before after disk old answer
  pub leaves : IfSome disk (IsLeft shown before name named)
  pub kept : (fault : OpeningFault) → answer ≡ Err fault → fault ≢ DiskFault → IfSome disk (OnlyRead shown (before.stored name))
  pub old_stays : IfSome old (λ d. IfSome named (λ n. OnlyRead shown (before.stored n) d))

-- the same of what opening comes to
abbrev pub OpensTo : {D : Type 0} → (D → DiskShown) → Limits → OutsideShown → OutsideShown → List ℕ → Option (List ℕ) → Opening D → Type 0
OpensTo shown limits before after name named opening = IsOpening shown limits before after name named opening.disk opening.old opening.answer

-- a shelf with these limits whose disk never failed, and on it the list stands
pub record IsOpen (shown : DiskShown) (limits of : Limits) (is_broken : Bool) (list : List (List ℕ)) : Type 0 where
  pub limits_are : of ≡ limits
  pub whole : is_broken ≡ false
  pub stands : AllHold shown list
