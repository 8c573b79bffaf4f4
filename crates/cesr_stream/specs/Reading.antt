-- What a reader knows, and what its calls answer and change.
use Rattle.std.specs.Prelude.{◌≡◌, ℕ, ◌+◌, ◌<◌, ◌≤◌, Bool, true, false, ◌⊎◌, List, [], ◌++◌, length, take, drop}
use Rattle.std.specs.declared.option.Option.{Option}
use Rattle.std.specs.declared.option.Option.TheVariants.{None, Some}
use Rattle.std.specs.declared.result.Result.{Result}
use Rattle.std.specs.declared.result.Result.TheVariants.{Ok, Err}
use Rattle.cesr_stream.specs.declared.bad.Bad.{Bad}
use Rattle.cesr_stream.specs.declared.bad.BadReason.{BadReason}
use Rattle.cesr_stream.specs.declared.bad.BadReason.TheVariants.{Truncated}
use Rattle.cesr_stream.specs.declared.item.Item.{Item}
use Rattle.cesr_stream.specs.declared.step.Step.{Step}
use Rattle.cesr_stream.specs.declared.step.Step.TheVariants.{Item as ItemStep, NeedMore, Bad as BadStep}
use Rattle.cesr_stream.specs.Parts.{Part, whole, refused, unfinished}
use Rattle.cesr_stream.specs.Front.{front}
use Rattle.cesr_stream.specs.Texts.{SpellsItem}
use Rattle.cesr_stream.specs.Written.{IsWritable}

-- How many bytes a body may have; how many bytes the items have that were answered; the bytes that were fed behind them;
-- whether a body was among them; why the stream was refused; whether no item was there since the last piece.
pub record Reading : Type 0 where
  pub limit : ℕ
  pub place : ℕ
  pub rest : List ℕ
  pub begun : Bool
  pub bad : Option Bad
  pub drained : Bool

-- a reader to which nothing was fed
abbrev pub fresh : ℕ → Reading
fresh limit = record { limit = limit; place = 0; rest = []; begun = false; bad = None; drained = true }

-- All bytes that were fed. Those behind the items that were answered are left.
pub record HasFed (reading : Reading) (fed : List ℕ) : Type 0 where
  pub within : reading.place ≤ length fed
  pub behind : drop reading.place fed ≡ reading.rest

-- how the rest is judged
abbrev pub judged : Reading → Part
judged reading = front reading.limit reading.begun reading.rest

-- after a further piece, which a refused stream doesn't take
abbrev pub fed_with : Reading → List ℕ → Option Bad → Reading
fed_with reading piece None = record reading { rest = reading.rest ++ piece; drained = false }
fed_with reading piece (Some bad) = reading

-- why the stream is refused from then on
abbrev pub refused_by : Reading → Bad → Reading
refused_by reading bad = record reading { bad = Some bad }

abbrev pub bad_at : ℕ → BadReason → Bad
bad_at place reason = record { place = place; reason = reason }

-- an item was answered that is spelled at the front of the rest, with its place
pub record AnswersItem (old new : Reading) (item : Item) (place : ℕ) : Type 0 where
  pub not_bad : old.bad ≡ None
  pub length_of : ℕ
  pub at : place ≡ old.place
  pub is_whole : judged old ≡ whole length_of
  pub spelled : SpellsItem (take length_of old.rest) item
  pub writable : IsWritable item
  pub within : length_of ≤ length old.rest
  pub moved : new ≡ record old { place = old.place + length_of; rest = drop length_of old.rest; begun = true; drained = false }

-- a rule refuses the rest for the first time
pub record AnswersBad (old new : Reading) (bad : Bad) : Type 0 where
  pub not_bad : old.bad ≡ None
  pub within : ℕ
  pub is_refused : judged old ≡ refused within bad.reason
  pub there : within ≤ length old.rest
  pub at : bad.place ≡ old.place + within
  pub refused_now : new ≡ refused_by old bad

-- what `next` answers
abbrev pub Answers : {E : Type 0} → Reading → Reading → Result Step E → Type 0
Answers old new (Ok (ItemStep item place)) = AnswersItem old new item place
Answers old new (Ok NeedMore) = (old.bad ≡ None) × (judged old ≡ unfinished) × (new ≡ record old { drained = true })
Answers old new (Ok (BadStep bad)) = ((old.bad ≡ Some bad) × (new ≡ old)) ⊎ AnswersBad old new bad
Answers old new (Err e) = new ≡ old

-- where more bytes are needed, fewer are buffered than the greatest item has: a counter of four characters, and 4,095 elements of
-- 132 each
abbrev pub BuffersFew : Reading → Step → Type 0
BuffersFew reading (ItemStep item place) = Unit {0}
BuffersFew reading NeedMore = length reading.rest < 540544
BuffersFew reading (BadStep bad) = Unit {0}

-- no item is there: one was refused, or `next` said so after the last piece, or there was no piece
abbrev pub IsDrained : Reading → Type 0
IsDrained reading = ((bad : Bad) × (reading.bad ≡ Some bad)) ⊎ (reading.drained ≡ true)

-- what `end` answers: the earlier refusal, or that an item is cut short, or nothing where none was begun
abbrev pub Ends : Reading → Reading → Option Bad → Type 0
Ends old new (Some bad) = ((old.bad ≡ Some bad) × (new ≡ old))
    ⊎ ((old.bad ≡ None) × (old.rest ≡ [] → ⊥) × (judged old ≡ unfinished) × (bad ≡ bad_at old.place Truncated) × (new ≡ refused_by old bad))
Ends old new None = (old.bad ≡ None) × (old.rest ≡ []) × (new ≡ old)
