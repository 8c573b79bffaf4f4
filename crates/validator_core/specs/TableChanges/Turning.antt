-- Between the acceptance of an event and that of the next: the log has the event, and the claims on the events behind it are
-- raised one event after the other.
use Rattle.std.specs.Prelude.{◌≡◌, ℕ, ◌+◌, ◌==◌, false, List, [], ◌∷◌, ◌++◌, length, position, slice_get, Some, IsTrue}
use Rattle.std.specs.List.{list_any}
use Rattle.event_body.specs.EventBody.Events.{is_interaction, prefix_of}
use Rattle.key_state.specs.States.{State}
use Rattle.journal.specs.declared.journal.body.Body.{Body}
use Rattle.journal.specs.Journal.Grown.{fits}
use Rattle.journal.specs.Journal.Logs.{precedes, state}
use Rattle.journal.specs.Journal.Questions.{state_before}
use Rattle.validator_core.specs.Tables.AcceptedLog.Cuts.{IsLog}
use Rattle.validator_core.specs.Tables.AcceptedLog.Values.{Log}
use Rattle.claim_table.specs.CoreLaws.ClaimRows.{HasClaims, found_on, verdict_in}
use Rattle.validator_core.specs.Tables.View.{View, log_of, with_log, with_rows}
use Rattle.validator_core.specs.Acceptance.Standing.{AreSoundTables, told_of}
use Rattle.validator_core.specs.Acceptance.Turned.{turned}

-- the last event of the log is the first that stands right before the body
pub record IsBehindLast (log : List Body) (b : Body) : Type 0 where
  pub before : ℕ
  pub first : position (precedes b) log ≡ Some before
  pub last : before + 1 ≡ length log

-- an establishment event makes the state
pub record MakesState (log : List Body) (b : Body) (s : State) : Type 0 where
  pub sets : is_interaction b.event ≡ false
  pub makes : state (log ++ b ∷ []) (prefix_of b.event) ≡ Some s

-- the event of a number is last in the log, and nothing else has changed
pub record IsAppended (c : Body) (number : ℕ) (old new : View) : Type 0 where
  pub log : Log
  pub numbers : log.numbers ≡ old.log.numbers ++ number ∷ []
  pub is_log : IsLog (log_of old ++ c ∷ []) log
  pub new_is : new ≡ with_log log old

-- the event is last in the log, and of the bodies of these numbers all claims are raised
pub record IsTurning (old : View) (c : Body) (done : List ℕ) (new : View) : Type 0 where
  pub sound : AreSoundTables old
  pub number : ℕ
  pub at : slice_get old.held number ≡ Some c
  pub fit : IsTrue (fits (log_of old) c)
  pub log : Log
  pub numbers : log.numbers ≡ old.log.numbers ++ number ∷ []
  pub is_log : IsLog (log_of old ++ c ∷ []) log
  pub new_is : new ≡ with_rows new.claims.rows (with_log log old)
  pub claims : HasClaims (state_before (log_of old ++ c ∷ []))
      (turned (λ n b. found_on (told_of old) (log_of old) b) (λ n b. found_on (told_of old) (log_of old ++ c ∷ []) b) done)
      (verdict_in (told_of old)) old.held new.claims.rows

-- all claims are raised of the body of one number more, where that isn't among those that are done
abbrev pub TurnsOne : ℕ → View → View → Type 0
TurnsOne number old new = (v : View) (c : Body) (done : List ℕ) → list_any (λ m. m == number) done ≡ false
    → IsTurning v c done old → IsTurning v c (done ++ number ∷ []) new
