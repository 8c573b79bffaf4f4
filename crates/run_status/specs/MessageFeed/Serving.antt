-- What stands while the items of a stream are taken.
use Rattle.std.specs.Prelude.{◌≡◌, ℕ, ◌+◌, true, List, [], ◌∷◌, ◌++◌}
use Rattle.std.specs.declared.option.Option.{Option}
use Rattle.std.specs.declared.option.Option.TheVariants.{None, Some}
use Rattle.std.specs.declared.result.Result.{Result}
use Rattle.std.specs.declared.result.Result.TheVariants.{Ok, Err}
use Rattle.cesr_stream.specs.declared.bad.Bad.{Bad}
use Rattle.cesr_stream.specs.declared.item.Item.{Item}
use Rattle.cesr_stream.specs.declared.message.Message.{Message}
use Rattle.cesr_stream.specs.Parts.{refused, unfinished}
use Rattle.cesr_stream.specs.Items.{Placed, placed, Stand}
use Rattle.cesr_stream.specs.Reading.{Reading, HasFed, judged}
use Rattle.cesr_stream.specs.Assembly.{Assembly, IsAssembled}
use Rattle.run_status.specs.declared.message_feed.halt.Halt.{Halt}
use Rattle.run_status.specs.declared.message_feed.halt.Halt.TheVariants.{OutOfMemory, Stopped}

-- the limits are the same
pub record SameLimits (old new : Reading) (assembler_old assembler_new : Assembly) : Type 0 where
  pub body_limit : new.limit ≡ old.limit
  pub message_limit : assembler_new.limit ≡ assembler_old.limit

-- the reader has judged all that was fed, and no item is whole in the rest
pub record IsIdle (reading : Reading) : Type 0 where
  pub not_bad : reading.bad ≡ None
  pub drained : reading.drained ≡ true
  pub unfinished_item : judged reading ≡ unfinished

-- a rule refuses the rest, at its place in the stream
pub record IsRefused (reading : Reading) (bad : Bad) : Type 0 where
  pub within : ℕ
  pub is_refused : judged reading ≡ refused within bad.reason
  pub at : bad.place ≡ reading.place + within

-- no item is whole in the rest, or a rule refuses it
abbrev pub StopsWith : Option Bad → Reading → Type 0
StopsWith None reading = IsIdle reading
StopsWith (Some bad) reading = IsRefused reading bad

-- a reader, the assembler behind it and the taker of its messages, as they stand
pub record Feeding (T : Type 0) : Type 0 where
  pub reader : Reading
  pub assembler : Assembly
  pub taker : T

abbrev pub feeding : {T : Type 0} → Reading → Assembly → T → Feeding T
feeding reader assembler taker = record { reader = reader; assembler = assembler; taker = taker }

module _ {T : Type 0} (has_taken : T → List Message → Type 0) where
  -- of these bytes, which were fed, the messages that are ended were taken
  pub record Serves (fed : List ℕ) (reading : Reading) (assembler : Assembly) (taker : T) : Type 0 where
    pub has_fed : HasFed reading fed
    pub items : List Placed
    pub answered : List Message
    pub stand : Stand reading.limit fed items reading.begun reading.place
    pub assembled : IsAssembled assembler.limit items answered assembler
    pub taken : has_taken taker answered

  -- whatever was fed: where the messages that are ended were taken of it before, they are taken now, and the limits are the same
  abbrev pub GoesOn : Feeding T → Feeding T → Type 0
  GoesOn old new = (fed : List ℕ) → Serves fed old.reader old.assembler old.taker
      → Serves fed new.reader new.assembler new.taker × SameLimits old.reader new.reader old.assembler new.assembler

  module _ {St : Type 0} (has_stopped : T → St → List Message → Type 0) where
    -- the taker stopped at the last message that is ended
    pub record StopsAt (fed : List ℕ) (stop : St) (reading : Reading) (assembler : Assembly) (taker : T) : Type 0 where
      pub has_fed : HasFed reading fed
      pub items : List Placed
      pub answered : List Message
      pub stand : Stand reading.limit fed items reading.begun reading.place
      pub assembled : IsAssembled assembler.limit items answered assembler
      pub stopped : has_stopped taker stop answered

    -- why items are taken no further; the last one may be lost where there is no memory
    abbrev pub Halts : List ℕ → Halt St → Reading → Assembly → T → Type 0
    Halts fed OutOfMemory reading assembler taker = (earlier : Reading) × (earlier.limit ≡ reading.limit) × Serves fed earlier assembler taker
    Halts fed (Stopped stop) reading assembler taker = StopsAt fed stop reading assembler taker

    -- whatever was fed: where the messages that are ended were taken of it before, items are taken so far and no further
    abbrev pub GoesUntil : Halt St → Feeding T → Feeding T → Type 0
    GoesUntil halt old new = (fed : List ℕ) → Serves fed old.reader old.assembler old.taker
        → Halts fed halt new.reader new.assembler new.taker × SameLimits old.reader new.reader old.assembler new.assembler

    -- An item was pushed, and the message that it ends was taken; or there was no memory, and nothing has changed; or the
    -- taker stopped at that message.
    abbrev pub HandsOn : {A : Type 0} → Item → ℕ → Assembly → Assembly → T → T → Result A (Halt St) → Type 0
    HandsOn item place before after old new (Ok done) = (limit : ℕ) (items : List Placed) (answered : List Message) → IsAssembled limit items answered before → has_taken old answered
        → (more : List Message) × IsAssembled limit (items ++ placed place item ∷ []) (answered ++ more) after × has_taken new (answered ++ more)
    HandsOn item place before after old new (Err OutOfMemory) = (after ≡ before) × (new ≡ old)
    HandsOn item place before after old new (Err (Stopped stop)) = (limit : ℕ) (items : List Placed) (answered : List Message) → IsAssembled limit items answered before → has_taken old answered
        → (more : List Message) × IsAssembled limit (items ++ placed place item ∷ []) (answered ++ more) after × has_stopped new stop (answered ++ more)
