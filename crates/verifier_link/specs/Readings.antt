-- In how many ways bytes are read as questions.
use Rattle.std.specs.Prelude.{◌≡◌, ℕ, ◌⊎◌, List, ◌++◌}
use Rattle.std.specs.List.{AllByRecursion}
use Rattle.verifier_link.specs.Fields.{IsBegun, IsRefused}
use Rattle.verifier_link.specs.Questions.{Question, IsQuestion}
use Rattle.verifier_link.specs.Serving.{questions_text}

-- the bytes are these questions and a rest that begins a question or can't
pub record Splits (bytes : List ℕ) (questions : List Question) (rest : List ℕ) : Type 0 where
  pub each : AllByRecursion IsQuestion questions
  pub is : bytes ≡ questions_text questions ++ rest
  pub no_question : IsBegun rest ⊎ IsRefused rest
