-- What the calls between a source and a reader do.
use Rattle.std.specs.Prelude.{◌≡◌, ◌≢◌, ℕ, ◌≤◌, List, [], ◌∷◌, length}
use Rattle.std.specs.declared.option.Option.{Option}
use Rattle.std.specs.declared.option.Option.TheVariants.{None}
use Rattle.lists.specs.KeriSpecs.Causes.{Rose}
use Rattle.lists.specs.KeriSpecs.Shown.{IsAtEnd}
use Rattle.keri_outside.specs.declared.failed.Failed.{Failed}
use Rattle.cesr_stream.specs.declared.bad.BadReason.TheVariants.{Truncated}
use Rattle.cesr_stream.specs.Reading.{Reading, bad_at, fed_with, refused_by}
use Rattle.run_status.specs.declared.message_feed.feed_close.FeedClose.{FeedClose}
use Rattle.run_status.specs.declared.message_feed.feed_close.FeedClose.TheVariants.{End, Bad, ReadFault, LimitReached, OutOfMemory, Stopped}
use Rattle.run_status.specs.declared.message_feed.halt.Halt.{Halt}
use Rattle.run_status.specs.declared.message_feed.halt.Halt.TheVariants.{OutOfMemory as NoMemory, Stopped as Halted}
use Rattle.run_status.specs.MessageFeed.Closing.{Gave}

-- a piece of so many bytes was fed, or none at the end of input
pub record FeedsPiece (left_old left_new : Option (List ℕ)) (faults_old faults_new : ℕ) (room : ℕ) (old new : Reading) (count : ℕ) : Type 0 where
  pub piece : List ℕ
  pub counted : length piece ≡ count
  pub few : count ≤ room
  pub same_faults : faults_new ≡ faults_old
  pub gave : Gave left_old left_new piece
  pub at_end : count ≡ 0 → IsAtEnd left_new × (new ≡ old)
  pub fed : count ≢ 0 → new ≡ fed_with old piece None

-- nothing was fed, since the source failed, or since there was no memory for what it gave
abbrev pub FeedsNone : Option (List ℕ) → Option (List ℕ) → ℕ → ℕ → Reading → Reading → Halt Failed → Type 0
FeedsNone left_old left_new faults_old faults_new old new NoMemory = ((piece : List ℕ) × Gave left_old left_new piece) × (new ≡ old)
FeedsNone left_old left_new faults_old faults_new old new (Halted failed) = (left_new ≡ left_old) × Rose faults_old faults_new × (new ≡ old)

-- the input ended: nothing is left, or an item is cut short
abbrev pub EndsSo : {T : Type 0} → Reading → Reading → FeedClose T → Type 0
EndsSo old new End = (old.rest ≡ []) × (new ≡ old)
EndsSo old new (Bad bad) = (old.rest ≢ []) × (bad ≡ bad_at old.place Truncated) × (new ≡ refused_by old bad)
EndsSo old new ReadFault = ⊥
EndsSo old new LimitReached = ⊥
EndsSo old new OutOfMemory = ⊥
EndsSo old new (Stopped stop) = ⊥

-- one more byte was asked for
abbrev pub PassesEnd : {T : Type 0} → Option (List ℕ) → Option (List ℕ) → ℕ → ℕ → Reading → Reading → FeedClose T → Type 0
PassesEnd left_old left_new faults_old faults_new old new End = (left_new ≡ left_old) × IsAtEnd left_new × (old.rest ≡ []) × (new ≡ old) × (faults_new ≡ faults_old)
PassesEnd left_old left_new faults_old faults_new old new (Bad bad) = (left_new ≡ left_old) × IsAtEnd left_new × (old.rest ≢ []) × (bad ≡ bad_at old.place Truncated) × (new ≡ refused_by old bad)
    × (faults_new ≡ faults_old)
PassesEnd left_old left_new faults_old faults_new old new ReadFault = (left_new ≡ left_old) × Rose faults_old faults_new × (new ≡ old)
PassesEnd left_old left_new faults_old faults_new old new LimitReached = ((more : ℕ) × Gave left_old left_new (more ∷ [])) × (new ≡ old) × (faults_new ≡ faults_old)
PassesEnd left_old left_new faults_old faults_new old new OutOfMemory = ⊥
PassesEnd left_old left_new faults_old faults_new old new (Stopped stop) = ⊥
