-- The state that an event follows, and the current state of its identifier.
use Rattle.std.specs.Prelude.{◌≡◌, Bool, true, false, List, [], ◌∷◌, ◌++◌, Option, Some, None, IfSome, Contains}
use Rattle.event_body.specs.EventBody.Events.{prefix_of, sn_of, said_of, is_inception, is_receipt}
use Rattle.event_body.specs.declared.event_body.event.Event.{Event}
use Rattle.key_state.specs.Kept.{IsKept}
use Rattle.key_state.specs.States.{State, IsState}
use Rattle.journal.specs.declared.journal.body.Body.{Body}
use Rattle.journal.specs.declared.journal.mode.Mode.{Mode}
use Rattle.journal.specs.Journal.Grown.{IsGrown}
use Rattle.journal.specs.Journal.Logs.{is_in, precedes, predecessor, state, takes}
use Rattle.journal.specs.Journal.History.{Told}
use Rattle.journal.specs.Journal.Questions.{state_before}
use Rattle.journal.specs.Journal.Readiness.{is_ready}
use Rattle.claim_table.specs.CoreLaws.Alike.{AreAlike}
use Rattle.journal.specs.EventRules.Parts.{Part, supports}
use Rattle.claim_table.specs.CoreLaws.Support.{ready_by, AreSound}
use Rattle.key_state.specs.Exposure.{own_rules}

-- both states are there and differ in their live events alone
abbrev pub AreAlikeIf : Option State → Option State → Type 0
AreAlikeIf None o = ⊥
AreAlikeIf (Some s) None = ⊥
AreAlikeIf (Some s) (Some t) = AreAlike s t

-- no two events of the list that have one identifier, number and digest differ
abbrev pub HasNoClash : List Body → Type 0
HasNoClash log = (b c : Body) → Contains log b → Contains log c → prefix_of b.event ≡ prefix_of c.event → sn_of b.event ≡ sn_of c.event
    → said_of b.event ≡ said_of c.event → b.bytes ≡ c.bytes

-- CURRENT: in a grown list without a clash, what the current state takes follows a state alike, unless it is an inception
abbrev pub CurrentLaw : Type 0
CurrentLaw = (log : List Body) (b : Body) → IsGrown log → HasNoClash log → is_inception b.event ≡ false → is_receipt b.event ≡ false
    → takes (state log (prefix_of b.event)) b.event ≡ true → AreAlikeIf (state_before log b) (state log (prefix_of b.event))

-- READY BY WHAT IT STANDS ON: the parts behind the state that the body follows tell whether it is ready, where that state and
-- the current one are alike
abbrev pub StandingReadyLaw : Type 0
StandingReadyLaw = (mode : Mode) (told : List Told) (log : List Body) (b : Body) (has : Part → Bool)
    → AreAlikeIf (state_before log b) (state log (prefix_of b.event)) → AreSound (own_rules (state log (prefix_of b.event)) b.event)
    → ((p : Part) → has p ≡ supports told (state_before log b) b p) → is_ready mode told log b ≡ ready_by mode has log b

-- and so for an inception, which follows none
abbrev pub InceptionReadyLaw : Type 0
InceptionReadyLaw = (mode : Mode) (told : List Told) (log : List Body) (b : Body) (has : Part → Bool) → is_inception b.event ≡ true
    → AreSound (own_rules (state log (prefix_of b.event)) b.event) → ((p : Part) → has p ≡ supports told (state_before log b) b p)
    → is_ready mode told log b ≡ ready_by mode has log b

-- BEHIND: a body without a predecessor stands on the new event where that is right before it, and so on the current state; else
-- on what it stood on
pub record IsBehind (log : List Body) (c b : Body) : Type 0 where
  pub stands_on_it : precedes b c ≡ true → state_before (log ++ c ∷ []) b ≡ state (log ++ c ∷ []) (prefix_of b.event)
  pub stays : precedes b c ≡ false → state_before (log ++ c ∷ []) b ≡ state_before log b

abbrev pub BehindLaw : Type 0
BehindLaw = (log : List Body) (c b : Body) → predecessor log b ≡ None → is_in log c ≡ false → IsBehind log c b

-- SOUND: what a state takes has sound rules, where bodies spell it and events make the state
abbrev pub SoundLaw : Type 0
SoundLaw = (o : Option State) (e : Event) → IsKept e → IfSome o IsState → takes o e ≡ true → AreSound (own_rules o e)

-- READY: so the parts behind the current state tell whether a body is ready, with no premise but those of the types
abbrev pub ReadyKeptLaw : Type 0
ReadyKeptLaw = (mode : Mode) (told : List Told) (log : List Body) (b : Body) (has : Part → Bool)
    → IsKept b.event → IfSome (state log (prefix_of b.event)) IsState → ((p : Part) → has p ≡ supports told (state log (prefix_of b.event)) b p)
    → is_ready mode told log b ≡ ready_by mode has log b
