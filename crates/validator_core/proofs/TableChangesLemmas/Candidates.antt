-- Runs over candidates, made step by step.
use Rattle.std.proofs.Common.{◌≡◌, ℕ, suc, zero, ◌+◌, ◌-◌, ◌<◌, ◌≤◌, ◌^◌, min, true, false, List, [], ◌∷◌, ◌++◌, Some, refl, ◌∙◌, ap, arith}
use Rattle.std.specs.Prelude.{count_by, length, slice_get, All}
use Rattle.journal.specs.declared.journal.body.Body.{Body}
use Rattle.journal.specs.declared.journal.mode.Mode.{Mode}
use Rattle.journal.specs.Journal.History.{Told}
use Rattle.journal.specs.Journal.Readiness.{is_ready}
use Rattle.claim_table.specs.CoreLaws.Candidates.{Widens, appends, ends, passes}
use Rattle.claim_table.specs.CoreLaws.Looks.{IsFrugal, looks}
use Rattle.claim_table.specs.CoreLaws.Waking.{wakes}
use Rattle.validator_core.specs.Acceptance.ReadyRuns.{RunsOver, TakesFew, counted_on, looks_in}
use Rattle.validator_core.specs.TableChanges.ReadyEvents.{LeadsTo}

module _ (mode : Mode) (told : List Told) (held : List Body) where
  pub leads_itself : (due : List ℕ) (log : List Body) → LeadsTo mode told held due log due log 0
  leads_itself due log = record { further = λ run. run; looks = λ run. omega arith; frugal = λ run few. few }

  passed_looks : (n : ℕ) (left : List ℕ) (log end : List Body) (fails : (b : Body) → slice_get held n ≡ Some b → is_ready mode told log b ≡ false) (run : RunsOver mode told held left log end)
      → looks_in mode told held (n ∷ left) log end (passes fails run) ≡ 1 + looks_in mode told held left log end run
  unfolding looks
  passed_looks n left log end fails run = refl

  appended_looks : (n : ℕ) (left due : List ℕ) (log end : List Body) (b : Body) (least : All (λ m. n < m) left) (at : slice_get held n ≡ Some b) (k : is_ready mode told log b ≡ true)
      (wider : Widens (is_ready mode told) (wakes mode) held log b left due) (run : RunsOver mode told held due (log ++ b ∷ []) end)
      → looks_in mode told held (n ∷ left) log end (appends least at k wider run) ≡ 1 + looks_in mode told held due (log ++ b ∷ []) end run
  unfolding looks
  appended_looks n left due log end b least at k wider run = refl

  passed_few : (n : ℕ) (left : List ℕ) (log end : List Body) (fails : (b : Body) → slice_get held n ≡ Some b → is_ready mode told log b ≡ false) (run : RunsOver mode told held left log end)
      → TakesFew mode told held left log end run → TakesFew mode told held (n ∷ left) log end (passes fails run)
  unfolding IsFrugal
  passed_few n left log end fails run few = few

  appended_few : (n : ℕ) (left due : List ℕ) (log end : List Body) (b : Body) (least : All (λ m. n < m) left) (at : slice_get held n ≡ Some b) (k : is_ready mode told log b ≡ true)
      (wider : Widens (is_ready mode told) (wakes mode) held log b left due) (run : RunsOver mode told held due (log ++ b ∷ []) end)
      → length due ≤ length left + count_by (wakes mode log b) held → TakesFew mode told held due (log ++ b ∷ []) end run → TakesFew mode told held (n ∷ left) log end (appends least at k wider run)
  unfolding IsFrugal
  appended_few n left due log end b least at k wider run new few = (new, few)

  -- PASSED: the least candidate isn't ready
  pub leads_pass : (due : List ℕ) (log : List Body) (n : ℕ) (left : List ℕ) (now : List Body) (k : ℕ) → ((b : Body) → slice_get held n ≡ Some b → is_ready mode told now b ≡ false)
      → LeadsTo mode told held due log (n ∷ left) now k → LeadsTo mode told held due log left now (k + 1)
  leads_pass due log n left now k fails leads = record {
    further = λ run. leads.further (passes fails run);
    looks = λ {end} run. (let one = leads.looks (passes fails run) in let two = passed_looks n left now end fails run in omega (arith, one, two));
    frugal = λ {end} run few. leads.frugal (passes fails run) (passed_few n left now end fails run few);
  }

  -- APPENDED: it is
  pub leads_append : (due : List ℕ) (log : List Body) (n : ℕ) (left more : List ℕ) (now : List Body) (b : Body) (k : ℕ) → All (λ m. n < m) left → slice_get held n ≡ Some b → is_ready mode told now b ≡ true
      → Widens (is_ready mode told) (wakes mode) held now b left more → length more ≤ length left + count_by (wakes mode now b) held
      → LeadsTo mode told held due log (n ∷ left) now k → LeadsTo mode told held due log more (now ++ b ∷ []) (k + 1)
  leads_append due log n left more now b k least at ready wider new leads = record {
    further = λ run. leads.further (appends least at ready wider run);
    looks = λ {end} run. (let one = leads.looks (appends least at ready wider run) in let two = appended_looks n left more now end b least at ready wider run in omega (arith, one, two));
    frugal = λ {end} run few. leads.frugal (appends least at ready wider run) (appended_few n left more now end b least at ready wider run new few);
  }

  -- THEN: one behind the other
  pub leads_then : (due : List ℕ) (log : List Body) (left : List ℕ) (mid : List Body) (k : ℕ) (more : List ℕ) (now : List Body) (j : ℕ)
      → LeadsTo mode told held due log left mid k → LeadsTo mode told held left mid more now j → LeadsTo mode told held due log more now (k + j)
  leads_then due log left mid k more now j first next = record {
    further = λ run. first.further (next.further run);
    looks = λ run. (let one = first.looks (next.further run) in let two = next.looks run in omega (arith, one, two));
    frugal = λ run few. first.frugal (next.further run) (next.frugal run few);
  }

  -- ENDS: with no candidate left it is a run
  abbrev pub leads_run : (due : List ℕ) (log now : List Body) (k : ℕ) → LeadsTo mode told held due log [] now k → RunsOver mode told held due log now
  leads_run due log now k leads = leads.further ends

  ended_looks : (log : List Body) → looks_in mode told held [] log log ends ≡ 0
  unfolding looks
  ended_looks log = refl

  pub leads_looks : (due : List ℕ) (log now : List Body) (k : ℕ) (leads : LeadsTo mode told held due log [] now k) → looks_in mode told held due log now (leads_run due log now k leads) ≡ k
  leads_looks due log now k leads = (let two = ended_looks now in let more : k + 0 ≡ k = omega arith in leads.looks ends ∙ ap (λ j. k + j) two ∙ more)

  ended_few : (log : List Body) → TakesFew mode told held [] log log ends
  unfolding IsFrugal
  ended_few log = tt

  pub leads_few : (due : List ℕ) (log now : List Body) (k : ℕ) (leads : LeadsTo mode told held due log [] now k) → TakesFew mode told held due log now (leads_run due log now k leads)
  leads_few due log now k leads = leads.frugal ends (ended_few now)

-- STEPS: one more, and as many as two lists of steps have
pub one_more : (steps k : ℕ) → counted_on steps (k + 1) ≡ min (counted_on steps k + 1) (2 ^ 64 - 1)
unfolding counted_on
one_more steps k = let next : k + 1 ≡ suc k = omega arith in ap (counted_on steps) next

pub both_counted : (steps k j : ℕ) → counted_on (counted_on steps k) j ≡ counted_on steps (k + j)
unfolding counted_on
both_counted steps k zero = let same : k ≡ k + 0 = omega arith in ap (counted_on steps) same
both_counted steps k (suc j) = let same : suc (k + j) ≡ k + suc j = omega arith in ap (λ n. min (n + 1) (2 ^ 64 - 1)) (both_counted steps k j) ∙ ap (counted_on steps) same

pub none_counted : (steps : ℕ) → counted_on steps 0 ≡ steps
unfolding counted_on
none_counted steps = refl
