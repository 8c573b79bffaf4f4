-- The signatures that are kept with an accepted event.
use Rattle.std.specs.Prelude.{ℕ, Bool, ◌&&◌, ◌||◌, ◌==◌, not, List, [], ◌∷◌, length, map, slice_get, Option, Some, None}
use Rattle.std.specs.Option.{option_eq}
use Rattle.cesr_codes.specs.declared.indexed_sig.IndexedSig.{IndexedSig}
use Rattle.event_body.specs.EventBody.Events.{is_rotation, prefix_of}
use Rattle.event_body.specs.declared.event_body.event.Event.{Event}
use Rattle.sith.specs.Tests.{satisfied}
use Rattle.key_state.specs.Exposure.{exposed, own_rules}
use Rattle.key_state.specs.Same.{distinct}
use Rattle.key_state.specs.States.{State}
use Rattle.journal.specs.Journal.History.{Told}
use Rattle.journal.specs.Journal.Logs.{before, state}
use Rattle.journal.specs.Journal.Readiness.{good_sigs, meets_next}
use Rattle.journal.specs.declared.journal.body.Body.{Body}

-- the state under which an event was accepted: that of its identifier just before it in the log (KERI, key event log)
abbrev pub state_under : List Body → Body → Option State
state_under log b = state (before b log) (prefix_of b.event)

-- the place of the commitment that a signature alone opens, of those of the state before its event (KERI, pre-rotation)
abbrev pub reveal_of : Option State → Event → IndexedSig → Option ℕ
reveal_of None e sig = None
reveal_of (Some s) e sig = slice_get (exposed s e (sig ∷ [])) 0

-- the signatures have one index and one reveal, and so add the same to the support of the event (own)
abbrev pub same_part : Option State → Event → IndexedSig → IndexedSig → Bool
same_part s e x y = (x.index == y.index) && option_eq (λ i j. i == j) (reveal_of s e x) (reveal_of s e y)

-- KEPT: of the controller's good signatures on an accepted event, by what was told, the first of those with one index and one
-- reveal, in order of first coming (own: what a record of a shelf keeps)
abbrev pub kept : List Told → List Body → Body → List IndexedSig
kept told log b = distinct (same_part (state_under log b) b.event) (good_sigs told (state_under log b) b)

-- these signatures meet the signing threshold of the event's own keys, and those of a rotation open enough of the commitments
-- of the state before it (KERI, signing threshold and pre-rotation)
abbrev pub signed_by : Option State → Event → List IndexedSig → Bool
signed_by s e sigs =
    satisfied (own_rules s e).kt (length (own_rules s e).keys) (map (λ g. g.index) sigs) && (not (is_rotation e) || meets_next s e sigs)
