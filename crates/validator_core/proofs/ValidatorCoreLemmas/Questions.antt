-- The open questions by number.
use Rattle.std.proofs.Common.{◌≡◌, ℕ, zero, suc, ◌%◌, List, [], ◌∷◌, length, map, Option, Some, None, sym, ◌∙◌, ap, subst, arith, option_map}
use Rattle.std.specs.Prelude.{flat_map, slice_get}
use Rattle.std.proofs.lemmas.List.{length-map}
use Rattle.validator_core.specs.Acceptance.Standing.{told_of}
use Rattle.claim_table.proofs.CoreLawsLemmas.Open.{open_rows_are}
use Rattle.claim_table.proofs.CoreLawsLemmas.RaisedQuestions.{open_on, questions_are}
use Rattle.claim_table.specs.declared.claim_table.row.Row.{Row}
use Rattle.claim_table.specs.ClaimTable.Rows.{open_rows}
use Rattle.validator_core.specs.Tables.View.{View, log_of}
use Rattle.journal.specs.declared.journal.body.Body.{Body}
use Rattle.journal.specs.declared.journal.mode.Mode.{Mode}
use Rattle.journal.specs.declared.journal.question.Question.{Question}
use Rattle.journal.specs.Journal.History.{Triple}
use Rattle.journal.specs.Journal.Journals.{Names, asked}
use Rattle.journal.specs.Journal.Questions.{next_question, questions}
use Rattle.keri_outside.specs.declared.limits.Limits.{Limits}
use Rattle.validator_core.specs.declared.validator_core.tally.Tally.{Tally}
use Rattle.validator_core.specs.ValidatorCore.Calls.{question_of}
use Rattle.validator_core.specs.ValidatorCore.Tables.{IsCore, base_in}

-- two lists whose elements name each other: each question names the triple at its place
names_at : (held : List Body) (ask : Row → Question) (rs : List Row) (ts : List Triple) → map (λ r. asked held (ask r)) rs ≡ map (λ t. Some t) ts → (k : ℕ) → Names held (option_map ask (slice_get rs k)) (slice_get ts k)
names_at held ask [] [] e k = tt
names_at held ask [] (t ∷ ts) e k = cc
names_at held ask (r ∷ rs) [] e k = cc
names_at held ask (r ∷ rs) (t ∷ ts) e zero = (let h : asked held (ask r) ≡ Some t = cc in h)
names_at held ask (r ∷ rs) (t ∷ ts) e (suc k) = names_at held ask rs ts (let h : map (λ r. asked held (ask r)) rs ≡ map (λ t. Some t) ts = cc in h) k

none_there : (held : List Body) (ts : List Triple) (k : ℕ) → length ts ≡ 0 → Names held None (slice_get ts k)
none_there held [] k e = tt
none_there held (t ∷ ts) k e = absurd (omega (arith, e))

module _ (mode : Mode) (limits : Limits) (base : ℕ) (v : View) (tally : Tally) (core : IsCore mode limits base v tally) where
  abbrev rows : List Row
  rows = open_rows (length v.held) v.claims.rows

  abbrev all : List Triple
  all = questions mode (base_in base v) (told_of v)

  named : map (λ r. asked v.held (question_of r)) rows ≡ map (λ t. Some t) all
  named =
      let order = core.in_order in
      let log = core.log_is in
      open_rows_are (told_of v) (log_of v) v.held v.claims.rows core.sound.claims
      ∙ ap (map (λ t. Some t)) ((λ i. flat_map (open_on (told_of v) (log i)) (order i)) ∙ sym (questions_are mode (base_in base v) (told_of v)))

  counted : length rows ≡ length all
  counted = sym (length-map rows (λ r. asked v.held (question_of r))) ∙ ap length named ∙ length-map all (λ t. Some t)

  -- NEXT: the open question of a number modulo their count
  pub next_none : (skip : ℕ) → 0 ≡ length rows → Names v.held None (next_question mode (base_in base v) (told_of v) skip)
  unfolding next_question
  next_none skip none = none_there v.held all (skip % length all) (sym counted ∙ sym none)

  pub next_some : (skip count : ℕ) (q : Option Question) → count ≡ length rows → q ≡ option_map question_of (slice_get rows (skip % count)) → Names v.held q (next_question mode (base_in base v) (told_of v) skip)
  unfolding next_question
  next_some skip count q is at =
      let one : q ≡ option_map question_of (slice_get rows (skip % length all)) = at ∙ ap (λ n. option_map question_of (slice_get rows (skip % n))) (is ∙ counted) in
      subst (λ q. Names v.held q (slice_get all (skip % length all))) (sym one) (names_at v.held question_of rows all named (skip % length all))
