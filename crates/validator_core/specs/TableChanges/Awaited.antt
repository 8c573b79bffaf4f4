-- What an event that waits may wait for: the event right before it, and the first seal of its delegator.
use Rattle.std.specs.Prelude.{◌≡◌, ◌==◌, ℕ, Bool, true, false, ◌&&◌, ◌||◌, not, List, Contains, Option, Some, None, slice_get}
use Rattle.std.specs.List.{list_any}
use Rattle.journal.specs.declared.journal.body.Body.{Body}
use Rattle.journal.specs.declared.journal.mode.Mode.{Mode}
use Rattle.journal.specs.Journal.Logs.{precedes, predecessor}
use Rattle.journal.specs.Journal.Readiness.{is_local}
use Rattle.claim_table.specs.CoreLaws.Waking.{is_anchored, is_there, is_waiting, may_wake, seals_first}
use Rattle.validator_core.specs.Tables.View.{View, log_of}

-- the event behind the list is right before the body or, where seals are waited for, holds its first seal
abbrev pub is_awaited : Mode → List Body → Body → Body → Bool
is_awaited mode log c b = precedes b c || (not (is_local mode) && seals_first log c b)

-- the same of bodies that may be there
abbrev pub is_awaited_there : Mode → List Body → Option Body → Option Body → Bool
is_awaited_there mode log None o = false
is_awaited_there mode log (Some c) None = false
is_awaited_there mode log (Some c) (Some b) = is_awaited mode log c b

-- the body of a number isn't accepted, and has all that it waits for in the log
abbrev pub IsNextAt : Mode → View → ℕ → Type 0
IsNextAt mode v n = (b : Body) → slice_get v.held n ≡ Some b
    → (not (list_any (λ m. m == n) v.log.numbers) && (is_there (log_of v) b && is_anchored mode (log_of v) b)) ≡ true

-- the body waits, and has all that it waits for in the log
abbrev pub has_all_awaited : Mode → List Body → Body → Bool
has_all_awaited mode log b = is_waiting log b && is_there log b && is_anchored mode log b

-- among the numbers are those of all events that the acceptance of the event of this number may wake
abbrev pub HasAllWoken : Mode → View → ℕ → List ℕ → Type 0
HasAllWoken mode v number numbers = (c b : Body) (n : ℕ) → slice_get v.held number ≡ Some c → slice_get v.held n ≡ Some b
    → may_wake mode (log_of v) c b ≡ true → Contains numbers n

-- among the numbers are those of all events that stand right behind the event of this number, and behind none of the log
abbrev pub HasAllBehind : View → ℕ → List ℕ → Type 0
HasAllBehind v number numbers = (c b : Body) (n : ℕ) → slice_get v.held number ≡ Some c → slice_get v.held n ≡ Some b
    → precedes b c ≡ true → predecessor (log_of v) b ≡ None → list_any (λ m. m == n) numbers ≡ true
