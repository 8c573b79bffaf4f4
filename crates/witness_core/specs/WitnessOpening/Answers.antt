-- What is answered of the file of a shelf, and of an old one whose list is to be brought over to it.
use Rattle.std.specs.Prelude.{◌≡◌, ◌≢◌, ℕ, List, [], IfSome, Result}
use Rattle.std.specs.declared.option.Option.{Option}
use Rattle.std.specs.declared.option.Option.TheVariants.{None, Some}
use Rattle.std.specs.declared.result.Result.TheVariants.{Ok, Err}
use Rattle.keri_outside.specs.declared.limits.Limits.{Limits}
use Rattle.run_status.specs.RunOutside.Shown.{OutsideShown}
use Rattle.shelf_log.specs.ShelfLog.Answers.{Reads}
use Rattle.shelf_log.specs.ShelfLog.Leftover.{IsLeftover}
use Rattle.shelf_log.specs.declared.shelf_log.fault.ShelfFault.{ShelfFault}
use Rattle.shelf_log.specs.declared.shelf_log.fault.ShelfFault.TheVariants as shelf
use Rattle.shelf_log.specs.declared.shelf_log.version.Version.{Version}
use Rattle.shelf_log.specs.declared.shelf_log.version.Version.TheVariants.{One, Two}
use Rattle.witness_core.specs.declared.witness_opening.fault.OpeningFault.{OpeningFault}
use Rattle.witness_core.specs.declared.witness_opening.fault.OpeningFault.TheVariants.{NotAShelf, NotAnOldShelf, DiskFault, LimitReached, OutOfMemory}

-- the list of a shelf that is open, or why there is none
abbrev pub Answer : Type 0
Answer = Result (List (List ℕ)) OpeningFault

-- what opening a shelf comes to: the disks that are handed back, of the shelf and of the old one, and what is answered
pub record Opening (D : Type 0) : Type 0 where
  pub disk : Option D
  pub old : Option D
  pub answer : Answer

-- by the shelf that is open, or by why there is none
abbrev pub opening_by : {T E D : Type 0} → (T → Opening D) → (E → Opening D) → Result T E → Opening D
opening_by opened none (Ok shelf) = opened shelf
opening_by opened none (Err fault) = none fault

-- the file of the version isn't a shelf
abbrev pub not_a_shelf : Version → ℕ → OpeningFault
not_a_shelf One place = NotAnOldShelf place
not_a_shelf Two place = NotAShelf place

-- What is answered where a file of the version isn't read. One that failed in an append is no more read than one that fails.
abbrev pub refusal : Version → ShelfFault → OpeningFault
refusal version (shelf.NotAShelf place) = not_a_shelf version place
refusal version shelf.DiskFault = DiskFault
refusal version shelf.LimitReached = LimitReached
refusal version shelf.OutOfMemory = OutOfMemory
refusal version shelf.Broken = DiskFault

-- what is answered of a file that is read: its list, or why it isn't read
abbrev pub AnswersRead : Version → Limits → List ℕ → Answer → Type 0
AnswersRead version limits file (Ok list) = Reads version limits file (Ok list)
AnswersRead version limits file (Err fault) = (why : ShelfFault) × (fault ≡ refusal version why) × Reads version limits file (Err why)

-- what is answered of a new file: no payloads yet, unless the disk fails
abbrev pub AnswersNew : Answer → Type 0
AnswersNew (Ok list) = list ≡ []
AnswersNew (Err fault) = fault ≡ DiskFault

-- Without an old shelf an empty file is made one, and any other is read.
pub record AnswersAlone (limits : Limits) (file : List ℕ) (answer : Answer) : Type 0 where
  pub made : file ≡ [] → AnswersNew answer
  pub read : file ≢ [] → AnswersRead Two limits file answer

-- With an old shelf a file that is empty, or that a stop left of one that was being filled, is filled with its list, and any other
-- is read. So a shelf is used as it is, whatever the old one holds; and a file of the first version is no shelf, as any foreign file
-- is none.
pub record AnswersBeside (limits : Limits) (file : List ℕ) (old : Option (List ℕ)) (answer : Answer) : Type 0 where
  pub filled : IsLeftover file → IfSome old (λ o. AnswersRead One limits o answer)
  pub read : (IsLeftover file → ⊥) → AnswersRead Two limits file answer

-- what is answered by the names of a shelf and of an old one, if any, where the outside shows what their files hold
abbrev pub Answers : Limits → OutsideShown → List ℕ → Option (List ℕ) → Answer → Type 0
Answers limits shown name None answer = IfSome (shown.stored name) (λ file. AnswersAlone limits file answer)
Answers limits shown name (Some old) answer = IfSome (shown.stored name) (λ file. AnswersBeside limits file (shown.stored old) answer)
