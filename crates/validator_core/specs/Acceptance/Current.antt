-- The state that an event stands on, and the current one.
use Rattle.std.specs.Prelude.{◌≡◌, ◌⊎◌, true, List, slice_get, Option, None}
use Rattle.event_body.specs.EventBody.Events.{prefix_of, is_inception}
use Rattle.key_state.specs.States.{State}
use Rattle.journal.specs.declared.journal.body.Body.{Body}
use Rattle.journal.specs.Journal.Logs.{stands, state}
use Rattle.journal.specs.Journal.Questions.{state_before}
use Rattle.validator_core.specs.declared.acceptance.footing.Footing.{Footing}
use Rattle.validator_core.specs.declared.acceptance.footing.Footing.TheVariants.{Inception, Behind}
use Rattle.claim_table.specs.CoreLaws.Standing.{AreAlikeIf}

-- the body stands, and is an inception, or follows a state that differs from the current one in its live events alone
pub record IsOnCurrent (log : List Body) (b : Body) : Type 0 where
  pub up : stands log b ≡ true
  pub is : (is_inception b.event ≡ true) ⊎ AreAlikeIf (state_before log b) (state log (prefix_of b.event))

-- the state at the place of a footing
abbrev pub state_on : List State → Footing → Option State
state_on states Inception = None
state_on states (Behind place) = slice_get states place
