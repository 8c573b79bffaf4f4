-- What the tables are once all that is ready is accepted: a run over candidates, from the accepted events that were to those that are.
use Rattle.std.specs.Prelude.{◌≡◌, ℕ, zero, suc, ◌+◌, ◌-◌, ◌^◌, min, List}
use Rattle.journal.specs.declared.journal.body.Body.{Body}
use Rattle.journal.specs.declared.journal.mode.Mode.{Mode}
use Rattle.journal.specs.Journal.History.{Told}
use Rattle.journal.specs.Journal.Readiness.{is_ready}
use Rattle.claim_table.specs.CoreLaws.Candidates.{Runs}
use Rattle.claim_table.specs.CoreLaws.Looks.{IsFrugal, looks}
use Rattle.claim_table.specs.CoreLaws.Waking.{wakes}
use Rattle.validator_core.specs.Tables.View.{View, log_of}
use Rattle.validator_core.specs.Acceptance.Standing.{AreSoundTables, told_of}

-- a run over candidates by the rules of what was told
abbrev pub RunsOver : Mode → List Told → List Body → List ℕ → List Body → List Body → Type 0
RunsOver mode told held due log end = Runs (is_ready mode told) (wakes mode) held due log end

abbrev pub looks_in : (mode : Mode) (told : List Told) (held : List Body) (due : List ℕ) (log end : List Body) → RunsOver mode told held due log end → ℕ
looks_in mode told held due log end run = looks (is_ready mode told) (wakes mode) held run

-- the steps once so many more are counted, up to the greatest number
unfoldable pub counted_on : ℕ → ℕ → ℕ
counted_on steps zero = steps
counted_on steps (suc n) = min (counted_on steps n + 1) (2 ^ 64 - 1)

-- nothing has changed but the log and the rows of claims
pub record KeepsTold (old new : View) : Type 0 where
  pub held : new.held ≡ old.held
  pub entries : new.entries ≡ old.entries
  pub pending : new.claims.pending ≡ old.claims.pending
  pub released : new.released ≡ old.released

-- no more candidates come into the run than its events wake
abbrev pub TakesFew : (mode : Mode) (told : List Told) (held : List Body) (due : List ℕ) (log end : List Body) → RunsOver mode told held due log end → Type 0
TakesFew mode told held due log end run = IsFrugal (is_ready mode told) (wakes mode) held (wakes mode) run

-- the accepted events are those at the end of a run over the candidates, with a step for each look, and no more candidates
-- come than are woken
pub record AcceptsReady (mode : Mode) (due : List ℕ) (old new : View) (steps steps_then : ℕ) : Type 0 where
  pub run : RunsOver mode (told_of old) old.held due (log_of old) (log_of new)
  pub steps_are : steps_then ≡ counted_on steps (looks_in mode (told_of old) old.held due (log_of old) (log_of new) run)
  pub frugal : TakesFew mode (told_of old) old.held due (log_of old) (log_of new) run
  pub keeps : KeepsTold old new
  pub sound : AreSoundTables new
