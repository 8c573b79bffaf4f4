-- What one more piece makes of what stands, and how reading closes.
use Rattle.std.proofs.Common.{◌≡◌, ℕ, ◌≤◌, ◌+◌, ◌-◌, List, [], ◌∷◌, ◌++◌, length, Option, Some, None, refl, sym, ◌∙◌, ap, subst, arith, append-nil, append_assoc, length-append, inr}
use Rattle.lists.specs.KeriSpecs.Causes.{Rose}
use Rattle.lists.specs.KeriSpecs.Shown.{before, IsAtEnd}
use Rattle.cesr_stream.specs.declared.message.Message.{Message}
use Rattle.cesr_stream.specs.Reading.{Reading, fed_with}
use Rattle.cesr_stream.specs.Assembly.{Assembly}
use Rattle.cesr_stream.proofs.Fed.{fed_on}
use Rattle.cesr_stream.proofs.Items.{stand_more}
use Rattle.run_status.specs.declared.message_feed.feed_close.FeedClose.{FeedClose}
use Rattle.run_status.specs.declared.message_feed.feed_close.FeedClose.TheVariants.{End, Bad, ReadFault, LimitReached, OutOfMemory, Stopped}
use Rattle.run_status.specs.MessageFeed.Serving.{Serves, IsIdle}
use Rattle.run_status.specs.MessageFeed.Closing.{Gave, ClosesBy}
use Rattle.run_status.specs.MessageFeed.Pieces.{EndsSo, PassesEnd}
use Rattle.run_status.specs.MessageFeed.Feeds.{Runs, TakesBy}

-- pieces one after the other are one piece
pub gave_more : (first middle last : Option (List ℕ)) (bytes piece : List ℕ) → Gave first middle bytes → Gave middle last piece → Gave first last (bytes ++ piece)
gave_more first middle None bytes piece a b = a ∙ ap (before bytes) b
gave_more first middle (Some left) bytes piece a b = a ∙ (ap (before bytes) b ∙ ap (λ l. Some l) (sym (append_assoc bytes piece left)))

pub gave_same : (first middle last : Option (List ℕ)) (bytes : List ℕ) → Gave first middle bytes → last ≡ middle → Gave first last bytes
gave_same first middle last bytes a same = a ∙ ap (before bytes) (sym same)

no_bytes : (bytes : List ℕ) → length bytes ≡ 0 → bytes ≡ []
no_bytes [] e = refl
no_bytes (b ∷ bytes) e = absurd (omega (arith, e))

-- an empty piece is none
pub gave_none : (first middle last : Option (List ℕ)) (bytes piece : List ℕ) → Gave first middle bytes → Gave middle last piece → length piece ≡ 0 → Gave first last bytes
gave_none first middle last bytes piece a b e =
    subst (λ p. Gave first last p) (ap (λ p. bytes ++ p) (no_bytes piece e) ∙ append-nil bytes) (gave_more first middle last bytes piece a b)

module _ {T : Type 0} (has_taken : T → List Message → Type 0) where
  -- what was taken is taken still when a piece is fed
  pub serves_fed : (fed : List ℕ) (old : Reading) (piece : List ℕ) (assembler : Assembly) (taker : T) → Serves has_taken fed old assembler taker
      → Serves has_taken (fed ++ piece) (fed_with old piece None) assembler taker
  serves_fed fed old piece assembler taker s = record {
    has_fed = fed_on old fed piece s.has_fed;
    items = s.items;
    answered = s.answered;
    stand = stand_more old.limit fed piece s.items old.begun old.place s.stand;
    assembled = s.assembled;
    taken = s.taken;
  }

  module _ {St : Type 0} (has_stopped : T → St → List Message → Type 0) (most : ℕ) (first now : Option (List ℕ)) (faults_first faults_now : ℕ) (reading_first : Reading) (fed : List ℕ) (reading : Reading)
      (assembler_first assembler : Assembly) (taker : T) (s : Serves has_taken fed reading assembler taker) (body_limit : reading.limit ≡ reading_first.limit)
      (message_limit : assembler.limit ≡ assembler_first.limit) (few : length fed ≤ most) where
    -- reading closes by its cause, when the messages were taken
    pub runs : (close : FeedClose St) → ClosesBy most first now faults_first faults_now fed reading close → TakesBy has_taken has_stopped close s.answered taker
        → Runs has_taken has_stopped most first now faults_first faults_now reading_first assembler_first assembler taker close
    runs close closes takes = record {
      fed = fed;
      reading = reading;
      items = s.items;
      answered = s.answered;
      has_fed = s.has_fed;
      stand = s.stand;
      assembled = s.assembled;
      body_limit = body_limit;
      message_limit = message_limit;
      few = few;
      closes = closes;
      takes = takes;
    }

    -- at the end of input
    pub ends : (new : Reading) (close : FeedClose St) → IsIdle reading → Gave first now fed → IsAtEnd now → faults_now ≡ faults_first → EndsSo reading new close
        → Runs has_taken has_stopped most first now faults_first faults_now reading_first assembler_first assembler taker close
    ends new End idle gave at_end same e = runs End (gave, at_end, e.0, same) s.taken
    ends new (Bad bad) idle gave at_end same e = runs (Bad bad) (gave, inr (record { at_end = at_end; unfinished_item = idle.unfinished_item; some = e.0; is = e.1 }), same) s.taken
    ends new ReadFault idle gave at_end same e = absurd e
    ends new LimitReached idle gave at_end same e = absurd e
    ends new OutOfMemory idle gave at_end same e = absurd e
    ends new (Stopped stop) idle gave at_end same e = absurd e

    -- past the greatest number of bytes
    pub passes : (middle : Option (List ℕ)) (faults_middle : ℕ) (new : Reading) (close : FeedClose St) → IsIdle reading → Gave first middle fed → faults_middle ≡ faults_first
        → length fed ≡ most → PassesEnd middle now faults_middle faults_now reading new close
        → Runs has_taken has_stopped most first now faults_first faults_now reading_first assembler_first assembler taker close
    passes middle faults_middle new End idle gave later all e = runs End (gave_same first middle now fed gave e.0, e.1, e.2, e.4 ∙ later) s.taken
    passes middle faults_middle new (Bad bad) idle gave later all e =
        runs (Bad bad) (gave_same first middle now fed gave e.0, inr (record { at_end = e.1; unfinished_item = idle.unfinished_item; some = e.2; is = e.3 }), e.5 ∙ later) s.taken
    passes middle faults_middle new ReadFault idle gave later all e =
        runs ReadFault (gave_same first middle now fed gave e.0, rose, idle.unfinished_item) s.taken
      where
        rose : Rose faults_first faults_now
        rose = let risen = e.1 in omega (arith, later, risen)
    passes middle faults_middle new LimitReached idle gave later all e =
        runs LimitReached (record { all = all; unfinished_item = idle.unfinished_item; more = e.0.0; gave = gave_more first middle now fed (e.0.0 ∷ []) gave e.0.1 }, e.2 ∙ later) s.taken
    passes middle faults_middle new OutOfMemory idle gave later all e = absurd e
    passes middle faults_middle new (Stopped stop) idle gave later all e = absurd e

-- how many bytes were fed, with a piece more
pub counted_on : (fed piece : List ℕ) (room count most : ℕ) → length piece ≡ count → count ≤ room → length fed + room ≡ most → length (fed ++ piece) + (room - count) ≡ most
counted_on fed piece room count most counted few all = omega (arith, length-append fed piece, counted, few, all)

-- These bytes were read so far, no item is whole in the rest, and there is room for so many more.
pub record IsRead {T : Type 0} (has_taken : T → List Message → Type 0) (first now : Option (List ℕ)) (most room : ℕ) (reading_first reading : Reading) (assembler_first assembler : Assembly) (taker : T) : Type 0 where
  pub fed : List ℕ
  pub idle : IsIdle reading
  pub serves : Serves has_taken fed reading assembler taker
  pub gave : Gave first now fed
  pub counted : length fed + room ≡ most
  pub body_limit : reading.limit ≡ reading_first.limit
  pub message_limit : assembler.limit ≡ assembler_first.limit
