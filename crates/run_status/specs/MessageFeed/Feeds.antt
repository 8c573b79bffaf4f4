-- Which messages of a source were taken.
use Rattle.std.specs.Prelude.{◌≡◌, ℕ, ◌≤◌, List, [], ◌++◌, length}
use Rattle.std.specs.declared.option.Option.{Option}
use Rattle.std.specs.declared.option.Option.TheVariants.{None}
use Rattle.keri_outside.specs.declared.limits.Limits.{Limits}
use Rattle.cesr_stream.specs.declared.message.Message.{Message}
use Rattle.cesr_stream.specs.Items.{Placed, Stand}
use Rattle.cesr_stream.specs.Messages.{messages}
use Rattle.cesr_stream.specs.Reading.{Reading, HasFed}
use Rattle.cesr_stream.specs.Assembly.{Assembly, IsAssembled, all_of}
use Rattle.run_status.specs.declared.message_feed.feed_close.FeedClose.{FeedClose}
use Rattle.run_status.specs.declared.message_feed.feed_close.FeedClose.TheVariants.{End, Bad, ReadFault, LimitReached, OutOfMemory, Stopped}
use Rattle.run_status.specs.MessageFeed.Closing.{ClosesBy}

-- These items stand from the front of the bytes that were read, at most as many as may be.
pub record Stream (limits : Limits) (fed : List ℕ) (reading : Reading) (items : List Placed) : Type 0 where
  pub limit : reading.limit ≡ limits.body
  pub few : length fed ≤ limits.stream_bytes
  pub has_fed : HasFed reading fed
  pub stand : Stand limits.body fed items reading.begun reading.place

module _ {T St : Type 0} (has_taken : T → List Message → Type 0) (has_stopped : T → St → List Message → Type 0) where
  -- the messages were taken, or the taker stopped at the last of them
  abbrev pub TakesBy : FeedClose St → List Message → T → Type 0
  TakesBy End answered taker = has_taken taker answered
  TakesBy (Bad bad) answered taker = has_taken taker answered
  TakesBy ReadFault answered taker = has_taken taker answered
  TakesBy LimitReached answered taker = has_taken taker answered
  TakesBy OutOfMemory answered taker = has_taken taker answered
  TakesBy (Stopped stop) answered taker = has_stopped taker stop answered

  -- The items that were read stand from the front of the bytes, and reading closed by its cause. All messages of the items
  -- were taken but for the one that is open. None is open only where there is none.
  pub record Feeds (limits : Limits) (left_old left_new : Option (List ℕ)) (faults_old faults_new : ℕ) (taker : T) (close : FeedClose St) (last : Option Message) : Type 0 where
    pub fed : List ℕ
    pub reading : Reading
    pub items : List Placed
    pub stream : Stream limits fed reading items
    pub closes : ClosesBy limits.stream_bytes left_old left_new faults_old faults_new fed reading close
    pub answered : List Message
    pub all : answered ++ all_of last ≡ messages limits.message_signatures items
    pub begun : last ≡ None → messages limits.message_signatures items ≡ []
    pub takes : TakesBy close answered taker

  -- the same, while an assembler holds the open message
  pub record Runs (most : ℕ) (left_old left_new : Option (List ℕ)) (faults_old faults_new : ℕ) (reading_old : Reading) (assembler_old assembler : Assembly) (taker : T) (close : FeedClose St) : Type 0 where
    pub fed : List ℕ
    pub reading : Reading
    pub items : List Placed
    pub answered : List Message
    pub has_fed : HasFed reading fed
    pub stand : Stand reading.limit fed items reading.begun reading.place
    pub assembled : IsAssembled assembler.limit items answered assembler
    pub body_limit : reading.limit ≡ reading_old.limit
    pub message_limit : assembler.limit ≡ assembler_old.limit
    pub few : length fed ≤ most
    pub closes : ClosesBy most left_old left_new faults_old faults_new fed reading close
    pub takes : TakesBy close answered taker
