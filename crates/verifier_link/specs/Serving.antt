-- What a server of the helper's protocol does.
use Rattle.std.specs.Prelude.{◌≡◌, ℕ, ◌≤◌, ◌⊎◌, List, [], ◌∷◌, ◌++◌, length, flat_map, take}
use Rattle.std.specs.List.{AllByRecursion}
use Rattle.lists.specs.KeriSpecs.Causes.{Rose}
use Rattle.lists.specs.KeriSpecs.Shown.{before, after, IsAtEnd}
use Rattle.verifier_link.specs.declared.served.Served.{Served}
use Rattle.verifier_link.specs.declared.served.Served.TheVariants.{End, Malformed, ReadFault, WriteFault, LimitReached, OutOfMemory}
use Rattle.verifier_link.specs.Answers.{answer_text}
use Rattle.verifier_link.specs.Exchanges.{Took}
use Rattle.verifier_link.specs.Fields.{IsBegun, IsRefused}
use Rattle.verifier_link.specs.Questions.{Question, IsQuestion, question_text}
use Rattle.verifier_link.specs.Sides.{Gave}
use Rattle.keri_outside.specs.Shown.{SourceShown, SinkShown}
use Rattle.verifier_link.specs.Stops.{IsCutShort}

-- what is told of a source and a sink
pub record SidesShown : Type 0 where
  pub source : SourceShown
  pub sink : SinkShown

abbrev pub sides_shown : SourceShown → SinkShown → SidesShown
sides_shown source sink = record { source = source; sink = sink }

-- questions and the rehearsal's answers, in order
abbrev pub questions_text : List Question → List ℕ
questions_text questions = flat_map question_text questions

abbrev pub answers_text : List Question → List ℕ
answers_text questions = flat_map answer_text questions

-- the sink failed at the last of these answers, of which a front was written behind those before it
pub record FailsToAnswer (old new : SinkShown) (questions : List Question) : Type 0 where
  pub answered : List Question
  pub last : Question
  pub are : questions ≡ answered ++ last ∷ []
  pub count : ℕ
  pub written : new.written ≡ after old.written (answers_text answered ++ take count (answer_text last))
  pub faults : Rose old.faults new.faults

module _ (most : ℕ) (old new : SidesShown) (questions : List Question) (rest : List ℕ) where
  -- so many bytes were read as may be, and the source gave one more
  pub record IsFull : Type 0 where
    pub all : length (questions_text questions ++ rest) ≡ most
    pub more : ℕ
    pub gave : Gave old.source new.source ((questions_text questions ++ rest) ++ more ∷ [])

  -- why no more is served: what was read are these questions, and the rest behind them
  abbrev pub ClosesServing : Served → Type 0
  ClosesServing End = (rest ≡ []) × Gave old.source new.source (questions_text questions) × IsAtEnd new.source.left × Took old.sink new.sink (answers_text questions)
  ClosesServing (Malformed place) = (place ≡ length (questions_text questions)) × (IsRefused rest ⊎ IsCutShort rest new.source.left) × Gave old.source new.source (questions_text questions ++ rest)
      × Took old.sink new.sink (answers_text questions)
  ClosesServing ReadFault = IsBegun rest × (old.source.left ≡ before (questions_text questions ++ rest) new.source.left) × Rose old.source.faults new.source.faults
      × Took old.sink new.sink (answers_text questions)
  ClosesServing WriteFault = (rest ≡ []) × Gave old.source new.source (questions_text questions) × FailsToAnswer old.sink new.sink questions
  ClosesServing LimitReached = IsBegun rest × IsFull × Took old.sink new.sink (answers_text questions)
  ClosesServing OutOfMemory = (questions ≡ []) × (rest ≡ []) × (new ≡ old)

-- The bytes read are whole questions in order and a rest, at most so many, and the rehearsal's answers to the questions
-- were written in order.
pub record IsServed (most : ℕ) (old new : SidesShown) (served : Served) : Type 0 where
  pub questions : List Question
  pub each : AllByRecursion IsQuestion questions
  pub rest : List ℕ
  pub few : length (questions_text questions ++ rest) ≤ most
  pub closes : ClosesServing most old new questions rest served
