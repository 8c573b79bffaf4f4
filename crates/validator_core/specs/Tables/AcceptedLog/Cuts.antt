-- What an accepted log says of a list of events: the current state of each identifier, and the state just behind each event.
use Rattle.std.specs.Prelude.{◌≡◌, ℕ, ◌+◌, ◌-◌, true, false, List, [], ◌∷◌, ◌++◌, length, take, slice_get, Option, Some, None, IsTrue, if◌then◌else◌}
use Rattle.cesr_codes.specs.declared.digest.Digest.{Digest}
use Rattle.cesr_codes.specs.declared.prefix.Prefix.{Prefix}
use Rattle.event_body.specs.EventBody.Events.{prefix_of, sn_of, said_of, is_interaction}
use Rattle.event_body.specs.declared.event_body.event.Event.{Event}
use Rattle.key_state.specs.KeyStates.{digest_at, state_behind}
use Rattle.key_state.specs.States.{State}
use Rattle.journal.specs.declared.journal.body.Body.{Body}
use Rattle.journal.specs.Journal.Grown.{IsGrown, fits}
use Rattle.journal.specs.Journal.Logs as logs
use Rattle.validator_core.specs.declared.tables.accepted_log.place.Place.{Place}
use Rattle.validator_core.specs.Tables.AcceptedLog.Values.{Log, last_of}

-- the state just behind its live event of a number: the live events up to that one, and all else the same, since only
-- interactions are behind the first
abbrev pub cut : ℕ → State → State
cut n s = state_behind (n - s.est_sn + 1) s

-- the second state is the first at another number of the log, with other events since
abbrev pub AreAlike : State → State → Type 0
AreAlike s t = record s { est_sn = t.est_sn; since = t.since } ≡ t

-- both are there and alike, or none is
abbrev pub AreBothAlike : Option State → Option State → Type 0
AreBothAlike None None = Unit {0}
AreBothAlike None (Some t) = ⊥
AreBothAlike (Some s) None = ⊥
AreBothAlike (Some s) (Some t) = AreAlike s t

-- the state under which an event was accepted whose own state is at a place, but for the live events: an interaction went onto the
-- state there, any other event has its identifier's last state before it
abbrev pub under_at : List State → Event → Option Place → Option State
under_at states e None = None
under_at states e (Some p) = if is_interaction e then slice_get states p.state else last_of (prefix_of e) (take p.state states)

-- the body is a live event of the state, and behind this front of the list, which ends with the body, its identifier had
-- the state cut there
pub record IsBehind (front : List Body) (b : Body) (s : State) : Type 0 where
  pub prefix : s.prefix ≡ prefix_of b.event
  pub live : digest_at s (sn_of b.event) ≡ Some (said_of b.event)
  pub then_is : logs.state front (prefix_of b.event) ≡ Some (cut (sn_of b.event) s)

-- such a state stands at the place
pub record HasState (states : List State) (front : List Body) (b : Body) (place : ℕ) : Type 0 where
  pub state : State
  pub at : slice_get states place ≡ Some state
  pub is : IsBehind front b state

-- the accepted log is of these events: it has the current state of each identifier, for each event the state that the event
-- made or went onto, and before a state that an event made the one that its identifier had just before the event
pub record IsLog (log : List Body) (v : Log) : Type 0 where
  pub numbers : length v.numbers ≡ length log
  pub places : length v.places ≡ length log
  pub current : (prefix : Prefix) → last_of prefix v.states ≡ logs.state log prefix
  pub behind : (i : ℕ) (b : Body) (p : Place) → slice_get log i ≡ Some b → slice_get v.places i ≡ Some p → HasState v.states (take (i + 1) log) b p.state
  pub under : (i : ℕ) (b : Body) (p : Place) → slice_get log i ≡ Some b → slice_get v.places i ≡ Some p → is_interaction b.event ≡ false
      → last_of (prefix_of b.event) (take p.state v.states) ≡ logs.state (take i log) (prefix_of b.event)

-- an establishment event that fits, and makes this state, is one more of the events
abbrev pub GrowsByState : State → Log → Log → Type 0
GrowsByState s old new = (log : List Body) (b : Body) → IsLog log old → IsTrue (fits log b) → is_interaction b.event ≡ false
    → logs.state (log ++ b ∷ []) (prefix_of b.event) ≡ Some s → IsLog (log ++ b ∷ []) new

-- an interaction of this identifier and digest that fits is one more of the events
abbrev pub GrowsByInteraction : Prefix → Digest → Log → Log → Type 0
GrowsByInteraction prefix said old new = (log : List Body) (b : Body) → IsLog log old → IsTrue (fits log b) → is_interaction b.event ≡ true
    → prefix_of b.event ≡ prefix → said_of b.event ≡ said → IsLog (log ++ b ∷ []) new

-- of whatever grown list the log is: the state is, but for its live events, the one right before the event at a place
abbrev pub IsStateBefore : Log → ℕ → Event → Option State → Type 0
IsStateBefore v i e s = (log : List Body) (b : Body) → IsLog log v → IsGrown log → slice_get log i ≡ Some b → b.event ≡ e
    → AreBothAlike s (logs.state (logs.before b log) (prefix_of b.event))
