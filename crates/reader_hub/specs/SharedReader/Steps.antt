-- What comes next where one reader alone tells a core.
use Rattle.std.specs.Prelude.{◌≡◌, ◌≤◌, List, [], length, Some}
use Rattle.journal.specs.Journal.History.{Told}
use Rattle.journal.specs.Journal.Questions.{IsInStep, questions}
use Rattle.reader_hub.specs.ReaderHub.Hubs.{HubPass}
use Rattle.reader_hub.specs.declared.reader_hub.core_head.CoreHead.{CoreHead}

-- of what the pass has seen each entry was the next one
abbrev pub SawInStep : HubPass → Type 0
SawInStep q = (head : CoreHead) → q.head ≡ Some head → IsInStep head.mode q.seen

-- of what the pass has seen no question is open
abbrev pub SawNoneOpen : HubPass → Type 0
SawNoneOpen q = (head : CoreHead) → q.head ≡ Some head → questions head.mode [] q.seen ≡ []

-- The pass's share isn't longer than what it has seen. Where it isn't shorter, so that no other has told anything, each entry that
-- it has seen was the next one.
pub record StepsAlone (q : HubPass) (share : List Told) : Type 0 where
  pub few : length share ≤ length q.seen
  pub in_step : length q.seen ≤ length share → SawInStep q
