-- What the calls of a reader of a mixed stream answer and change.
use Rattle.std.specs.Prelude.{◌≡◌, ℕ, ◌+◌, ◌≤◌, true, false, ◌⊎◌, [], length, take, drop}
use Rattle.std.specs.declared.option.Option.{Option}
use Rattle.std.specs.declared.option.Option.TheVariants.{None, Some}
use Rattle.std.specs.declared.result.Result.{Result}
use Rattle.std.specs.declared.result.Result.TheVariants.{Ok, Err}
use Rattle.cesr_stream.specs.declared.bad.Bad.{Bad}
use Rattle.cesr_stream.specs.declared.bad.BadReason.TheVariants.{Truncated}
use Rattle.cesr_stream.specs.declared.item.Item.{Item}
use Rattle.cesr_stream.specs.declared.step.Step.{Step}
use Rattle.cesr_stream.specs.declared.step.Step.TheVariants.{Item as ItemStep, NeedMore, Bad as BadStep}
use Rattle.cesr_stream.specs.Parts.{Part, whole, refused, unfinished}
use Rattle.cesr_stream.specs.Reading.{Reading, bad_at, refused_by}
use Rattle.cesr_stream.specs.Written.{IsWritable}
use Rattle.cesr_binary.specs.Mixed.{mixed_front, SpellsEither}

-- how the rest is judged
abbrev pub judged : Reading → Part
judged reading = mixed_front reading.limit reading.begun reading.rest

-- an item was answered that is spelled at the front of the rest, with its place
pub record AnswersItem (old new : Reading) (item : Item) (place : ℕ) : Type 0 where
  pub not_bad : old.bad ≡ None
  pub length_of : ℕ
  pub at : place ≡ old.place
  pub is_whole : judged old ≡ whole length_of
  pub spelled : SpellsEither (take length_of old.rest) item
  pub writable : IsWritable item
  pub within : length_of ≤ length old.rest
  pub moved : new ≡ record old { place = old.place + length_of; rest = drop length_of old.rest; begun = true; drained = false }

-- a rule refuses the rest for the first time
pub record AnswersBad (old new : Reading) (bad : Bad) : Type 0 where
  pub not_bad : old.bad ≡ None
  pub within : ℕ
  pub is_refused : judged old ≡ refused within bad.reason
  pub there : within ≤ length old.rest
  pub at : bad.place ≡ old.place + within
  pub refused_now : new ≡ refused_by old bad

-- what `next` answers
abbrev pub Answers : {E : Type 0} → Reading → Reading → Result Step E → Type 0
Answers old new (Ok (ItemStep item place)) = AnswersItem old new item place
Answers old new (Ok NeedMore) = (old.bad ≡ None) × (judged old ≡ unfinished) × (new ≡ record old { drained = true })
Answers old new (Ok (BadStep bad)) = ((old.bad ≡ Some bad) × (new ≡ old)) ⊎ AnswersBad old new bad
Answers old new (Err e) = new ≡ old

-- what `end` answers: the earlier refusal, or that an item is cut short, or nothing where none was begun
abbrev pub Ends : Reading → Reading → Option Bad → Type 0
Ends old new (Some bad) = ((old.bad ≡ Some bad) × (new ≡ old))
    ⊎ ((old.bad ≡ None) × (old.rest ≡ [] → ⊥) × (judged old ≡ unfinished) × (bad ≡ bad_at old.place Truncated) × (new ≡ refused_by old bad))
Ends old new None = (old.bad ≡ None) × (old.rest ≡ []) × (new ≡ old)
