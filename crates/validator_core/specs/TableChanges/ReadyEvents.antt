-- Runs over candidates while what is ready is accepted.
use Rattle.std.specs.Prelude.{◌≡◌, ℕ, ◌+◌, ◌<◌, ◌≤◌, true, List, [], ◌∷◌, ◌++◌, count_by, length, slice_get, Some, All}
use Rattle.std.specs.List.Sorted.{IsStrictlySortedBy}
use Rattle.std.specs.Ordering.{nat_cmp}
use Rattle.journal.specs.declared.journal.body.Body.{Body}
use Rattle.journal.specs.declared.journal.mode.Mode.{Mode}
use Rattle.journal.specs.Journal.History.{Told}
use Rattle.journal.specs.Journal.Readiness.{is_ready}
use Rattle.claim_table.specs.CoreLaws.Candidates.{Widens}
use Rattle.claim_table.specs.CoreLaws.Waking.{wakes}
use Rattle.validator_core.specs.Tables.View.{View, log_of}
use Rattle.validator_core.specs.Acceptance.ReadyRuns.{KeepsTold, RunsOver, TakesFew, counted_on, looks_in}
use Rattle.validator_core.specs.Acceptance.Standing.{AreSoundTables, told_of}

-- from the one candidates and list each run goes on from the other, with so many looks more; a frugal one is frugal still
pub record LeadsTo (mode : Mode) (told : List Told) (held : List Body) (due : List ℕ) (log : List Body) (left : List ℕ) (now : List Body) (taken : ℕ) : Type 0 where
  pub further : {end : List Body} → RunsOver mode told held left now end → RunsOver mode told held due log end
  pub looks : {end : List Body} (run : RunsOver mode told held left now end) → looks_in mode told held due log end (further run) ≡ taken + looks_in mode told held left now end run
  pub frugal : {end : List Body} (run : RunsOver mode told held left now end) → TakesFew mode told held left now end run → TakesFew mode told held due log end (further run)

-- the least candidate whose event is ready: it and those below are taken out, with a look at each
pub record IsNext (mode : Mode) (v : View) (due left : List ℕ) (n : ℕ) (steps steps_then : ℕ) : Type 0 where
  pub body : Body
  pub at : slice_get v.held n ≡ Some body
  pub ready : is_ready mode (told_of v) (log_of v) body ≡ true
  pub least : All (λ m. n < m) left
  pub rising : IsStrictlySortedBy nat_cmp left
  pub passed : ℕ
  pub leads : LeadsTo mode (told_of v) v.held due (log_of v) (n ∷ left) (log_of v) passed
  pub steps_are : steps_then ≡ counted_on steps (passed + 1)

-- no candidate is ready: all are taken out, with a look at each
pub record IsOver (mode : Mode) (v : View) (due : List ℕ) (steps steps_then : ℕ) : Type 0 where
  pub passed : ℕ
  pub leads : LeadsTo mode (told_of v) v.held due (log_of v) [] (log_of v) passed
  pub steps_are : steps_then ≡ counted_on steps passed

-- the event of a number, which is ready, is accepted, and what it wakes is a candidate: no more have come
pub record AcceptsNext (mode : Mode) (b : Body) (old new : View) (left due : List ℕ) : Type 0 where
  pub keeps : KeepsTold old new
  pub log : log_of new ≡ log_of old ++ b ∷ []
  pub sound : AreSoundTables new
  pub widens : Widens (is_ready mode (told_of old)) (wakes mode) old.held (log_of old) b left due
  pub few : length due ≤ length left + count_by (wakes mode (log_of old) b) old.held

-- the event of a number is ready
pub record IsReadyAt (mode : Mode) (v : View) (n : ℕ) : Type 0 where
  pub body : Body
  pub at : slice_get v.held n ≡ Some body
  pub ready : is_ready mode (told_of v) (log_of v) body ≡ true
