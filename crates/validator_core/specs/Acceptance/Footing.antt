-- What an event stands on: an inception on nothing, any other on the state of its predecessor, among whose live events that is.
use Rattle.std.specs.Prelude.{◌≡◌, ℕ, true, List, slice_get, Some}
use Rattle.event_body.specs.EventBody.Events.{is_inception}
use Rattle.key_state.specs.States.{State}
use Rattle.journal.specs.declared.journal.body.Body.{Body}
use Rattle.journal.specs.Journal.Logs.{stands}
use Rattle.journal.specs.Journal.Questions.{state_before}
use Rattle.validator_core.specs.Tables.AcceptedLog.Cuts.{cut}
use Rattle.validator_core.specs.Tables.AcceptedLog.Values.{Log}
use Rattle.validator_core.specs.declared.acceptance.footing.Footing.{Footing}
use Rattle.validator_core.specs.declared.acceptance.footing.Footing.TheVariants.{Inception, Behind}

-- the state at a place, cut at a live event, is the one that the body follows
pub record IsBehind (log : List Body) (v : Log) (b : Body) (place : ℕ) : Type 0 where
  pub state : State
  pub at : slice_get v.states place ≡ Some state
  pub sn : ℕ
  pub before : state_before log b ≡ Some (cut sn state)

abbrev pub IsFootingAt : List Body → Log → Body → Footing → Type 0
IsFootingAt log v b Inception = is_inception b.event ≡ true
IsFootingAt log v b (Behind place) = IsBehind log v b place

-- the body stands in the log, on this
pub record IsFooting (log : List Body) (v : Log) (b : Body) (on : Footing) : Type 0 where
  pub up : stands log b ≡ true
  pub is : IsFootingAt log v b on
