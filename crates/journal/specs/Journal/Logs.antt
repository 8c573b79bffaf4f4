-- Lists of events: the state of an identifier, and what fits behind them (KERI, key event logs).
use Rattle.std.specs.Prelude.{◌+◌, Bool, false, ◌&&◌, ◌||◌, ◌==◌, nat_lt, List, [], ◌∷◌, ◌++◌, filter, find, fold, bytes_eq, Option, Some, None, is_none, if◌then◌else◌}
use Rattle.std.specs.List.{list_any}
use Rattle.std.specs.Result.{result_ok}
use Rattle.cesr_codes.specs.declared.prefix.Prefix.{Prefix}
use Rattle.event_body.specs.declared.event_body.event.Event.{Event}
pub use Rattle.journal.specs.declared.journal.body.Body.{Body}
use Rattle.key_state.specs.States.{State}
use Rattle.key_state.specs.Same.{same_prefix}
use Rattle.event_body.specs.EventBody.Events.{prefix_of, sn_of, said_of, prior_of, is_inception}
use Rattle.key_state.specs.KeyStates.{first, misfit, moved, are_same}

-- the bodies have the same bytes
abbrev pub same_body : Body → Body → Bool
same_body b c = bytes_eq b.bytes c.bytes

-- the body is in the list
abbrev pub is_in : List Body → Body → Bool
is_in bodies b = list_any (λ c. same_body c b) bodies

-- the body is in the log of the identifier
abbrev pub is_of : Prefix → Body → Bool
is_of prefix b = same_prefix (prefix_of b.event) prefix

-- the state after an event, or the state before one that doesn't fit
abbrev pub stepped : Option State → Event → Option State
stepped None e = result_ok (first e)
stepped (Some s) e = if is_none (misfit s e) then Some (moved s e) else Some s

-- the state of an identifier after its events in the list, in order
unfoldable pub state : List Body → Prefix → Option State
state bodies prefix = fold (λ s b. stepped s b.event) None (filter (is_of prefix) bodies)

-- the live events behind a further event of their log, which takes the place of those from its number on
abbrev pub live_with : List Body → Body → List Body
live_with live b = filter (λ c. nat_lt (sn_of c.event) (sn_of b.event)) live ++ b ∷ []

-- the live events of an identifier in the list, in order (KERI: superseded interactions left out)
unfoldable pub live : List Body → Prefix → List Body
live bodies prefix = fold live_with [] (filter (is_of prefix) bodies)

-- the list, cut off after the body
unfoldable pub up_to : Body → List Body → List Body
up_to b [] = []
up_to b (c ∷ bodies) = c ∷ (if same_body c b then [] else up_to b bodies)

-- the list, cut off before the body
unfoldable pub before : Body → List Body → List Body
before b [] = []
before b (c ∷ bodies) = if same_body c b then [] else c ∷ before b bodies

-- the state of the body's identifier just after the body
abbrev pub state_at : List Body → Body → Option State
state_at bodies b = state (up_to b bodies) (prefix_of b.event)

-- an event that may come next: an inception where there is no state, else one without a misfit
abbrev pub takes : Option State → Event → Bool
takes None e = is_inception e
takes (Some s) e = is_none (misfit s e)

-- it stands one number before the body, with the digest that the body's `p` names
abbrev pub precedes : Body → Body → Bool
precedes b c = is_of (prefix_of b.event) c && (sn_of c.event + 1 == sn_of b.event)
    && are_same (prior_of b.event) (Some (said_of c.event))

-- the earliest event of the list that the body names as its predecessor
unfoldable pub predecessor : List Body → Body → Option Body
predecessor bodies b = find (precedes b) bodies

-- the state of a predecessor, where there is one
abbrev pub state_behind : List Body → Option Body → Option State
state_behind bodies None = None
state_behind bodies (Some c) = state_at bodies c

-- the body is an inception, or the state just after its predecessor takes it
unfoldable pub stands : List Body → Body → Bool
stands bodies b = is_inception b.event || follows (state_behind bodies (predecessor bodies b))
  where
    follows : Option State → Bool
    follows None = false
    follows (Some s) = is_none (misfit s b.event)
