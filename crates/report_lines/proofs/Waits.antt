-- The bodies that wait, one after the other.
use Rattle.std.proofs.Common.{◌≡◌, ℕ, ◌+◌, ◌<◌, cond, [], ◌∷◌, ◌++◌, length, Some, refl, sym, ◌∙◌, ap, arith, take, get_or, inl, inr}
use Rattle.std.specs.Prelude.{filter, slice_get, option_to_list, is_some}
use Rattle.std.proofs.lemmas.Bool.{cases_Bool}
use Rattle.std.proofs.lemmas.List.Elements.{filter_more}
use Rattle.std.proofs.lemmas.Option.{slice_get-get_or, slice_get_cases}
use Rattle.journal.specs.declared.journal.body.Body.{Body}
use Rattle.validator_core.specs.ValidatorCore.View.{CoreView}
use Rattle.report_lines.specs.Report.{reason_of}
use Rattle.report_lines.specs.Rows.{if_waits}

-- one more body waits, or doesn't
pub waiting_more : (core : CoreView) (i : ℕ) → i < length core.held
    → filter (λ b. is_some (reason_of core b)) (take (i + 1) core.held)
    ≡ filter (λ b. is_some (reason_of core b)) (take i core.held) ++ option_to_list (if_waits core (slice_get core.held i))
waiting_more core i h = elim (slice_get_cases core.held i).1 [
  | inl w ↦ filter_more (λ b. is_some (reason_of core b)) core.held i w.0 h
      ∙ ap (λ bs. filter (λ b. is_some (reason_of core b)) (take i core.held) ++ bs) (one (get_or core.held i w.0)
      ∙ ap (λ o. option_to_list (if_waits core o)) (sym (slice_get-get_or core.held i w.0 h)))
  | inr w ↦ absurd (omega (arith, w.0, h))
]
  where
    one : (b : Body) → cond (is_some (reason_of core b)) (b ∷ []) [] ≡ option_to_list (if_waits core (Some b))
    one b = elim (cases_Bool (is_some (reason_of core b))) [ inl k ↦ rw k refl | inr k ↦ rw k refl ]
