-- What was read of a source, and why no more is read.
use Rattle.std.specs.Prelude.{◌≡◌, ◌≢◌, ℕ, ◌⊎◌, List, [], ◌∷◌, ◌++◌, length}
use Rattle.std.specs.declared.option.Option.{Option}
use Rattle.lists.specs.KeriSpecs.Causes.{Rose}
use Rattle.lists.specs.KeriSpecs.Shown.{before, IsAtEnd}
use Rattle.cesr_stream.specs.declared.bad.Bad.{Bad}
use Rattle.cesr_stream.specs.declared.bad.BadReason.TheVariants.{Truncated}
use Rattle.cesr_stream.specs.Parts.{unfinished}
use Rattle.cesr_stream.specs.Reading.{Reading, judged, bad_at}
use Rattle.run_status.specs.MessageFeed.Serving.{IsRefused}
use Rattle.run_status.specs.declared.message_feed.feed_close.FeedClose.{FeedClose}
use Rattle.run_status.specs.declared.message_feed.feed_close.FeedClose.TheVariants.{End, Bad as BadClose, ReadFault, LimitReached, OutOfMemory, Stopped}

-- the source gave these bytes, where that is shown
abbrev pub Gave : Option (List ℕ) → Option (List ℕ) → List ℕ → Type 0
Gave old new bytes = old ≡ before bytes new

-- the input ended within an item
pub record IsCutShort (left : Option (List ℕ)) (reading : Reading) (bad : Bad) : Type 0 where
  pub at_end : IsAtEnd left
  pub unfinished_item : judged reading ≡ unfinished
  pub some : reading.rest ≢ []
  pub is : bad ≡ bad_at reading.place Truncated

-- So many bytes were read as may be, no item is whole in the rest, and the source gave one byte more.
pub record IsFull (most : ℕ) (old new : Option (List ℕ)) (fed : List ℕ) (reading : Reading) : Type 0 where
  pub all : length fed ≡ most
  pub unfinished_item : judged reading ≡ unfinished
  pub more : ℕ
  pub gave : Gave old new (fed ++ more ∷ [])

-- Why reading closed: what the source had left before and has left now, how often it had failed and has now, all bytes
-- that were read, and what is known of them.
abbrev pub ClosesBy : {T : Type 0} → ℕ → Option (List ℕ) → Option (List ℕ) → ℕ → ℕ → List ℕ → Reading → FeedClose T → Type 0
ClosesBy most old new faults_old faults_new fed reading End = Gave old new fed × IsAtEnd new × (reading.rest ≡ []) × (faults_new ≡ faults_old)
ClosesBy most old new faults_old faults_new fed reading (BadClose bad) = Gave old new fed × (IsRefused reading bad ⊎ IsCutShort new reading bad) × (faults_new ≡ faults_old)
ClosesBy most old new faults_old faults_new fed reading ReadFault = Gave old new fed × Rose faults_old faults_new × (judged reading ≡ unfinished)
ClosesBy most old new faults_old faults_new fed reading LimitReached = IsFull most old new fed reading × (faults_new ≡ faults_old)
ClosesBy most old new faults_old faults_new fed reading OutOfMemory = (more : List ℕ) × Gave old new (fed ++ more)
ClosesBy most old new faults_old faults_new fed reading (Stopped stop) = Gave old new fed
