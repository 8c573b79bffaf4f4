-- How all that is ready is accepted: a candidate after the other, until none is left.
use Rattle.std.proofs.Common.{◌≡◌, ℕ, ◌+◌, ◌<◌, true, false, not, List, [], ◌∷◌, ◌++◌, Some, sym, ◌∙◌, ap, subst, arith}
use Rattle.std.specs.Prelude.{bytes_eq, count_by, slice_get}
use Rattle.std.specs.List.{list_any}
use Rattle.std.specs.Cmp.Lexicographic.{bytes_decides}
use Rattle.std.proofs.lemmas.Bool.{and_parts, not_from_false, not_from_true, not-true}
use Rattle.event_body.specs.EventBody.Events.{is_receipt}
use Rattle.journal.specs.declared.journal.body.Body.{Body}
use Rattle.journal.specs.declared.journal.mode.Mode.{Mode}
use Rattle.journal.specs.Journal.History.{Told}
use Rattle.journal.specs.Journal.Journals.{told_by}
use Rattle.journal.specs.Journal.Logs.{is_in, same_body}
use Rattle.journal.specs.Journal.Readiness.{is_ready}
use Rattle.journal.proofs.JournalLemmas.Accepting.{same_body-refl}
use Rattle.journal.proofs.JournalLemmas.Places.{any_at}
use Rattle.journal.proofs.JournalLemmas.Settling.{count-falls, ends_in, find-true, outside}
use Rattle.claim_table.proofs.CoreLawsLemmas.Entries.{ready_waits}
use Rattle.claim_table.proofs.CoreLawsLemmas.Members.{find_some}
use Rattle.validator_core.specs.Tables.View.{View, log_of}
use Rattle.validator_core.specs.Acceptance.ReadyRuns.{AcceptsReady, KeepsTold, counted_on}
use Rattle.validator_core.specs.Acceptance.Standing.{Extends, AreSoundTables, told_of}
use Rattle.validator_core.proofs.AcceptanceLemmas.Rewound.{extends_then}
use Rattle.validator_core.specs.TableChanges.ReadyEvents.{AcceptsNext, IsNext, IsOver, LeadsTo}
use Rattle.validator_core.proofs.TableChangesLemmas.Candidates.{both_counted, leads_append, leads_few, leads_looks, leads_run, leads_then}

-- FEWER: one more of the bodies is in the list
pub fewer_left : (held log : List Body) (n : ℕ) (b : Body) → slice_get held n ≡ Some b → is_in log b ≡ false
    → count_by (λ x. not (is_in (log ++ b ∷ []) x)) held < count_by (λ x. not (is_in log x)) held
fewer_left held log n b at out =
    let found = find_some (λ x. same_body x b) held (any_at (λ x. same_body x b) held n b at (same_body-refl b)) in
    let x = found.0 in
    let bytes = (bytes_decides x.bytes b.bytes).0 (find-true (λ y. same_body y b) held x found.1) in
    let here : is_in log x ≡ false = ap (λ bs. list_any (λ c. bytes_eq c.bytes bs) log) bytes ∙ out in
    let there : is_in (log ++ b ∷ []) x ≡ true = ap (λ bs. list_any (λ c. bytes_eq c.bytes bs) (log ++ b ∷ [])) bytes ∙ ends_in same_body log b (same_body-refl b) in
    count-falls (λ y. same_body y b) (λ y. not (is_in log y)) (λ y. not (is_in (log ++ b ∷ []) y)) (λ y h. outside (λ c. same_body c y) log (b ∷ []) h)
    held x found.1 (not_from_false _ here) (not_from_true _ there)

-- what is ready isn't in the list
pub ready_new : (mode : Mode) (told : List Told) (log : List Body) (b : Body) → is_ready mode told log b ≡ true → is_in log b ≡ false
ready_new mode told log b ready = not-true _ (and_parts (not (is_receipt b.event)) (not (is_in log b)) (ready_waits mode told log b ready)).1

module _ (mode : Mode) (start : View) (due : List ℕ) (steps : ℕ) where
  -- so far
  abbrev pub IsAccepting : View → List ℕ → ℕ → Type 0
  IsAccepting now left then_steps = (passed : ℕ) × (then_steps ≡ counted_on steps passed)
      × LeadsTo mode (told_of start) start.held due (log_of start) left (log_of now) passed
      × KeepsTold start now × AreSoundTables now × Extends start now

  -- runs by what is told are those by what was told, since nothing is told meanwhile
  by_start : (now : View) → KeepsTold start now → (left : List ℕ) (log : List Body) (k : ℕ) → LeadsTo mode (told_of now) now.held due (log_of start) left log k → LeadsTo mode (told_of start) start.held due (log_of start) left log k
  by_start now keeps left log k leads =
      subst (λ (p : List Told × List Body). LeadsTo mode p.0 p.1 due (log_of start) left log k) (λ i. (told_by (keeps.held i) (keeps.entries i), keeps.held i)) leads

  by_now : (now : View) → KeepsTold start now → (left : List ℕ) (log : List Body) (k : ℕ) → LeadsTo mode (told_of start) start.held due (log_of start) left log k → LeadsTo mode (told_of now) now.held due (log_of start) left log k
  by_now now keeps left log k leads =
      subst (λ (p : List Told × List Body). LeadsTo mode p.0 p.1 due (log_of start) left log k) (λ i. (told_by (sym keeps.held i) (sym keeps.entries i), sym keeps.held i)) leads

  -- ON: one more event is accepted
  pub goes_on : (now : View) (left rest : List ℕ) (n : ℕ) (now_steps next_steps : ℕ) (is : IsAccepting now left now_steps) (next : IsNext mode now left rest n now_steps next_steps)
      (w : View) (more : List ℕ) → AcceptsNext mode next.body now w rest more → Extends now w → IsAccepting w more next_steps
  goes_on now left rest n now_steps next_steps is next w more took longer =
      let told = told_of now in let log = log_of now in
      let here = leads_then mode told now.held due (log_of start) left log is.0 (n ∷ rest) log next.passed (by_now now is.3 left log is.0 is.2) next.leads in
      let onward = leads_append mode told now.held due (log_of start) n rest more log next.body (is.0 + next.passed) next.least next.at next.ready took.widens took.few here in
      let back = by_start now is.3 more (log ++ next.body ∷ []) (is.0 + next.passed + 1) onward in
      let count : is.0 + (next.passed + 1) ≡ is.0 + next.passed + 1 = omega arith in (
        is.0 + next.passed + 1,
        next.steps_are ∙ ap (λ s. counted_on s (next.passed + 1)) is.1 ∙ both_counted steps is.0 (next.passed + 1) ∙ ap (counted_on steps) count,
        subst (λ l. LeadsTo mode (told_of start) start.held due (log_of start) more l (is.0 + next.passed + 1)) (sym took.log) back,
        record { held = took.keeps.held ∙ is.3.held; entries = took.keeps.entries ∙ is.3.entries; pending = took.keeps.pending ∙ is.3.pending; released = took.keeps.released ∙ is.3.released },
        took.sound,
        extends_then start now w is.5 longer,
      )

  -- OVER: none is ready
  pub is_over : (now : View) (left : List ℕ) (now_steps end_steps : ℕ) (is : IsAccepting now left now_steps) → IsOver mode now left now_steps end_steps → AcceptsReady mode due start now steps end_steps
  is_over now left now_steps end_steps is over =
      let told = told_of now in let log = log_of now in
      let all = by_start now is.3 [] log (is.0 + over.passed)
      (leads_then mode told now.held due (log_of start) left log is.0 [] log over.passed (by_now now is.3 left log is.0 is.2) over.leads) in
      record {
        run = leads_run mode (told_of start) start.held due (log_of start) log (is.0 + over.passed) all;
        steps_are = over.steps_are ∙ ap (λ s. counted_on s over.passed) is.1 ∙ both_counted steps is.0 over.passed
            ∙ ap (counted_on steps) (sym (leads_looks mode (told_of start) start.held due (log_of start) log (is.0 + over.passed) all));
        frugal = leads_few mode (told_of start) start.held due (log_of start) log (is.0 + over.passed) all;
        keeps = is.3;
        sound = is.4;
      }
