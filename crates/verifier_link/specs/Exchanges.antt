-- What a link does where it is asked.
use Rattle.std.specs.Prelude.{◌≡◌, ℕ, ◌+◌, ◌-◌, ◌^◌, ◌<◌, ◌⊎◌, min, List, length, take}
use Rattle.std.specs.declared.result.Result.{Result}
use Rattle.std.specs.declared.result.Result.TheVariants.{Ok, Err}
use Rattle.lists.specs.KeriSpecs.Causes.{Rose}
use Rattle.lists.specs.KeriSpecs.Shown.{before, after, IsAtEnd}
use Rattle.verifier_link.specs.Answers.{answer_size}
use Rattle.verifier_link.specs.Questions.{Question, question_text}
use Rattle.verifier_link.specs.Sides.{HelperShown, Gave}
use Rattle.keri_outside.specs.Shown.{SourceShown, SinkShown}

-- the bytes were written, where the sink tells, and it didn't fail
pub record Took (old new : SinkShown) (bytes : List ℕ) : Type 0 where
  pub written : new.written ≡ after old.written bytes
  pub faults : new.faults ≡ old.faults

-- the sink failed at a front of the bytes, which was written
pub record Refuses (old new : SinkShown) (bytes : List ℕ) : Type 0 where
  pub count : ℕ
  pub written : new.written ≡ after old.written (take count bytes)
  pub faults : Rose old.faults new.faults

-- Fewer bytes came than were due: the source failed, or its input ended.
pub record ComesShort (old new : SourceShown) (due : ℕ) : Type 0 where
  pub bytes : List ℕ
  pub fewer : length bytes < due
  pub left : old.left ≡ before bytes new.left
  pub cause : Rose old.faults new.faults ⊎ (IsAtEnd new.left × (new.faults ≡ old.faults))

-- it has failed before, so nothing is put and nothing is read
pub record HasFailed (old new : HelperShown) : Type 0 where
  pub failed : 0 < old.faults
  pub same_source : new.source ≡ old.source
  pub same_sink : new.sink ≡ old.sink

-- the sink failed, and nothing was read
pub record FailsToPut (question : Question) (old new : HelperShown) : Type 0 where
  pub never_failed : old.faults ≡ 0
  pub put : Refuses old.sink new.sink (question_text question)
  pub same_source : new.source ≡ old.source

-- the question was put, and fewer bytes came than the answer has
pub record FailsToRead (due : ℕ) (question : Question) (old new : HelperShown) : Type 0 where
  pub never_failed : old.faults ≡ 0
  pub put : Took old.sink new.sink (question_text question)
  pub read : ComesShort old.source new.source due

module _ {A : Type 0} (Says : A → List ℕ → Type 0) (question : Question) (old new : HelperShown) where
  -- the question was put, and the bytes that came say the answer
  pub record Answers (answer : A) : Type 0 where
    pub bytes : List ℕ
    pub says : Says answer bytes
    pub due : length bytes ≡ answer_size question.wanted
    pub put : Took old.sink new.sink (question_text question)
    pub read : Gave old.source new.source bytes
    pub never_failed : old.faults ≡ 0
    pub same : new.faults ≡ 0

  -- the question was put, and the bytes that came say no answer
  pub record SaysNothing : Type 0 where
    pub never_failed : old.faults ≡ 0
    pub bytes : List ℕ
    pub nothing : (answer : A) → Says answer bytes → ⊥
    pub due : length bytes ≡ answer_size question.wanted
    pub put : Took old.sink new.sink (question_text question)
    pub read : Gave old.source new.source bytes

  -- the link failed: it has failed before, or else its sink, its source, its input or the answer failed now
  pub record Fails : Type 0 where
    pub cause : HasFailed old new ⊎ FailsToPut question old new ⊎ FailsToRead (answer_size question.wanted) question old new ⊎ SaysNothing
    pub counted : new.faults ≡ min (old.faults + 1) (2 ^ 64 - 1)

  -- an answer, or a failure
  abbrev pub Exchanges : {E : Type 0} → Result A E → Type 0
  Exchanges (Ok answer) = Answers answer
  Exchanges (Err failed) = Fails

-- the question was put, and as many bytes came as are due; or why not
abbrev pub Fetches : {E : Type 0} → Question → HelperShown → HelperShown → List ℕ → Result (Unit {0}) E → Type 0
Fetches question old new bytes (Ok done) = Took old.sink new.sink (question_text question) × Gave old.source new.source bytes × (old.faults ≡ 0) × (new.faults ≡ 0)
Fetches question old new bytes (Err failed) = (HasFailed old new ⊎ FailsToPut question old new ⊎ FailsToRead (length bytes) question old new) × (new.faults ≡ min (old.faults + 1) (2 ^ 64 - 1))
