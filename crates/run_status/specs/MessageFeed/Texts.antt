-- What was read of a source, and why no more is read.
use Rattle.std.specs.Prelude.{◌≡◌, ℕ, ◌≤◌, List, [], ◌∷◌, ◌++◌, length}
use Rattle.std.specs.declared.option.Option.{Option}
use Rattle.lists.specs.KeriSpecs.Causes.{Rose}
use Rattle.lists.specs.KeriSpecs.Shown.{before, IsAtEnd}
use Rattle.run_status.specs.declared.message_feed.text_close.TextClose.{TextClose}
use Rattle.run_status.specs.declared.message_feed.text_close.TextClose.TheVariants.{End, ReadFault, LimitReached, OutOfMemory}

-- the source gave these bytes, where that is shown
abbrev pub Gave : Option (List ℕ) → Option (List ℕ) → List ℕ → Type 0
Gave old new bytes = old ≡ before bytes new

-- Why reading closed: what the source had left before and has left now, how often it had failed and has now, and all bytes
-- that were read. Where there was no memory the source may have given more than these.
abbrev pub ClosesText : ℕ → Option (List ℕ) → Option (List ℕ) → ℕ → ℕ → List ℕ → TextClose → Type 0
ClosesText most old new faults_old faults_new bytes End = Gave old new bytes × IsAtEnd new × (faults_new ≡ faults_old)
ClosesText most old new faults_old faults_new bytes ReadFault = Gave old new bytes × Rose faults_old faults_new
ClosesText most old new faults_old faults_new bytes LimitReached = (length bytes ≡ most) × ((more : ℕ) × Gave old new (bytes ++ more ∷ [])) × (faults_new ≡ faults_old)
ClosesText most old new faults_old faults_new bytes OutOfMemory = ((more : List ℕ) × Gave old new (bytes ++ more)) × (faults_new ≡ faults_old)

-- At most so many bytes were read, and reading closed by its cause.
pub record ReadsText (most : ℕ) (old new : Option (List ℕ)) (faults_old faults_new : ℕ) (bytes : List ℕ) (close : TextClose) : Type 0 where
  pub few : length bytes ≤ most
  pub closes : ClosesText most old new faults_old faults_new bytes close

-- a piece came behind the bytes, of at most so many bytes, and of none at the end of input alone
pub record IsPiece (left_old left_new : Option (List ℕ)) (room : ℕ) (old new : List ℕ) (count : ℕ) : Type 0 where
  pub piece : List ℕ
  pub counted : length piece ≡ count
  pub few : count ≤ room
  pub gave : Gave left_old left_new piece
  pub at_end : count ≡ 0 → IsAtEnd left_new
  pub added : new ≡ old ++ piece

-- no piece came: the source failed, or there was no memory for what it gave
abbrev pub StopsSo : Option (List ℕ) → Option (List ℕ) → ℕ → ℕ → TextClose → Type 0
StopsSo old new faults_old faults_new ReadFault = (new ≡ old) × Rose faults_old faults_new
StopsSo old new faults_old faults_new OutOfMemory = ((more : List ℕ) × Gave old new more) × (faults_new ≡ faults_old)
StopsSo old new faults_old faults_new End = ⊥
StopsSo old new faults_old faults_new LimitReached = ⊥

-- one more byte was asked for
abbrev pub StopsFull : Option (List ℕ) → Option (List ℕ) → ℕ → ℕ → TextClose → Type 0
StopsFull old new faults_old faults_new End = (new ≡ old) × IsAtEnd new × (faults_new ≡ faults_old)
StopsFull old new faults_old faults_new LimitReached = ((more : ℕ) × Gave old new (more ∷ [])) × (faults_new ≡ faults_old)
StopsFull old new faults_old faults_new ReadFault = (new ≡ old) × Rose faults_old faults_new
StopsFull old new faults_old faults_new OutOfMemory = ⊥
