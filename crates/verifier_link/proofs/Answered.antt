-- What stands between two questions, and how serving ends there.
use Rattle.std.proofs.Common.{◌≡◌, ℕ, ◌-◌, ◌≤◌, List, [], ◌∷◌, ◌++◌, length, flat_map, take, refl, sym, ap, ◌∙◌, subst, arith, append-nil, length-append}
use Rattle.std.specs.List.{AllByRecursion}
use Rattle.std.proofs.lemmas.Grind.{flat_map-append}
use Rattle.lists.specs.KeriSpecs.Causes.{Rose}
use Rattle.lists.specs.KeriSpecs.Shown.{after}
use Rattle.verifier_link.specs.declared.served.Served.TheVariants.{WriteFault}
use Rattle.verifier_link.specs.declared.stop.Stop.{Stop}
use Rattle.verifier_link.specs.declared.stop.Stop.TheVariants.{Ended, Malformed, ReadFault, LimitReached}
use Rattle.verifier_link.specs.Answers.{answer_text}
use Rattle.verifier_link.specs.Exchanges.{Took}
use Rattle.verifier_link.specs.Fields.{IsTaken}
use Rattle.verifier_link.specs.Questions.{Question, IsQuestion, question_text}
use Rattle.verifier_link.specs.Serving.{SidesShown, IsServed, sides_shown, questions_text, answers_text}
use Rattle.verifier_link.specs.Sides.{Gave}
use Rattle.keri_outside.specs.Shown.{SourceShown, SinkShown}
use Rattle.verifier_link.specs.Stops.{StopsReading, served_at}
use Rattle.verifier_link.proofs.Behind.{taken_more, left_more, rose_more, next_more}
use Rattle.verifier_link.proofs.Pieces.{gave_more}
use Rattle.lists.proofs.KeriSpecsLemmas.Putting.{after-append}

-- Questions were read and answered, and so many bytes more may be read.
pub record AreAnswered (most room : ℕ) (first now : SidesShown) : Type 0 where
  pub questions : List Question
  pub each : AllByRecursion IsQuestion questions
  pub taken : IsTaken most room first.source now.source (questions_text questions)
  pub took : Took first.sink now.sink (answers_text questions)

-- texts with one more
texts_more : (text : Question → List ℕ) (questions : List Question) (question : Question) → flat_map text (questions ++ question ∷ []) ≡ flat_map text questions ++ text question
texts_more text questions question =
    flat_map-append text questions (question ∷ []) ∙ ap (λ last. flat_map text questions ++ last) (append-nil (text question))

each_more : (questions : List Question) (question : Question) → AllByRecursion IsQuestion questions → IsQuestion question → AllByRecursion IsQuestion (questions ++ question ∷ [])
each_more [] question each valid = (valid, tt)
each_more (one ∷ questions) question each valid = (each.0, each_more questions question each.1 valid)

module _ (most room : ℕ) (first now : SidesShown) (answered : AreAnswered most room first now) where
  few : (bytes : List ℕ) → length bytes ≤ room → length (questions_text answered.questions ++ bytes) ≤ most
  few bytes fewer = let counted = answered.taken.counted in omega (arith, counted, fewer, length-append (questions_text answered.questions) bytes)

  placed : (place : ℕ) → place ≡ most - room → place ≡ length (questions_text answered.questions)
  placed place is = let counted = answered.taken.counted in omega (arith, counted, is)

  -- no further question is read
  pub ends_reading : (new : SourceShown) (place : ℕ) → place ≡ most - room → (stop : Stop) → StopsReading room now.source new stop → IsServed most first (sides_shown new now.sink) (served_at stop place)
  ends_reading new place is Ended (gave, at_end) =
      let texts = questions_text answered.questions in
      record {
        questions = answered.questions;
        each = answered.each;
        rest = [];
        few = few [] (omega arith);
        closes = (refl, subst (Gave first.source new) (append-nil texts) (gave_more first.source now.source new texts [] answered.taken.gave gave), at_end, answered.took);
      }
  ends_reading new place is Malformed (bytes, why, fewer, gave) = record {
    questions = answered.questions;
    each = answered.each;
    rest = bytes;
    few = few bytes fewer;
    closes = (placed place is, why, gave_more first.source now.source new (questions_text answered.questions) bytes answered.taken.gave gave, answered.took);
  }
  ends_reading new place is ReadFault (bytes, begun, fewer, left, rose) =
      let texts = questions_text answered.questions in
      record {
        questions = answered.questions;
        each = answered.each;
        rest = bytes;
        few = few bytes fewer;
        closes = (begun, left_more most room first.source now.source new texts answered.taken bytes left, rose_more most room first.source now.source new texts answered.taken rose, answered.took);
      }
  ends_reading new place is LimitReached (bytes, begun, all, more, gave) =
      let texts = questions_text answered.questions in
      let counted = answered.taken.counted in
      record {
        questions = answered.questions;
        each = answered.each;
        rest = bytes;
        few = few bytes (omega (arith, all));
        closes = (
          begun,
          record {
            all = omega (arith, all, counted, length-append texts bytes);
            more = more;
            gave = next_more most room first.source now.source new texts answered.taken bytes more gave;
          },
          answered.took,
        );
      }

  module _ (middle_room : ℕ) (middle : SourceShown) (question : Question) (valid : IsQuestion question) (taken : IsTaken room middle_room now.source middle (question_text question)) where
    read_on : IsTaken most middle_room first.source middle (questions_text (answered.questions ++ question ∷ []))
    read_on = subst (IsTaken most middle_room first.source middle) (sym (texts_more question_text answered.questions question))
        (taken_more most room middle_room first.source now.source middle (questions_text answered.questions) (question_text question) answered.taken taken)

    -- one more question was read and answered
    pub answered_more : (sink : SinkShown) → Took now.sink sink (answer_text question) → AreAnswered most middle_room first (sides_shown middle sink)
    answered_more sink took = record {
      questions = answered.questions ++ question ∷ [];
      each = each_more answered.questions question answered.each valid;
      taken = read_on;
      took = record {
        written =
            took.written ∙ ap (λ told. after told (answer_text question)) answered.took.written ∙ after-append first.sink.written (answers_text answered.questions) (answer_text question)
            ∙ ap (after first.sink.written) (sym (texts_more answer_text answered.questions question));
        faults = took.faults ∙ answered.took.faults;
      };
    }

    -- one more question was read, and the sink failed at its answer
    pub ends_answering : (sink : SinkShown) (count : ℕ) → sink.written ≡ after now.sink.written (take count (answer_text question)) → Rose now.sink.faults sink.faults
        → IsServed most first (sides_shown middle sink) WriteFault
    ends_answering sink count written rose =
        let counted = read_on.counted in
        record {
          questions = answered.questions ++ question ∷ [];
          each = each_more answered.questions question answered.each valid;
          rest = [];
          few = omega (arith, counted, length-append (questions_text (answered.questions ++ question ∷ [])) []);
          closes = (
            refl,
            read_on.gave,
            record {
              answered = answered.questions;
              last = question;
              are = refl;
              count = count;
              written =
                  written ∙ ap (λ told. after told (take count (answer_text question))) answered.took.written
                  ∙ after-append first.sink.written (answers_text answered.questions) (take count (answer_text question));
              faults = subst (λ faults. Rose faults sink.faults) answered.took.faults rose;
            },
          );
        }
