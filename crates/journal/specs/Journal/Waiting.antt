-- Why an event isn't accepted yet.
use Rattle.std.specs.Prelude.{Bool, true, false, ◌&&◌, ◌||◌, not, List, [], ◌∷◌, Option, Some, None, is_some, is_none}
use Rattle.cesr_codes.specs.declared.prefix.Prefix.{Prefix}
use Rattle.key_state.specs.States.{State}
use Rattle.journal.specs.declared.journal.mode.Mode.{Mode}
use Rattle.journal.specs.declared.journal.why.Why.{Why}
use Rattle.journal.specs.declared.journal.why.Why.TheVariants.{Predecessor, Signatures, Next, Receipts, Seal, Never}
use Rattle.event_body.specs.EventBody.Events.{prefix_of, is_inception, is_receipt}
use Rattle.key_state.specs.KeyStates.{first_true}
use Rattle.journal.specs.Journal.Logs.{Body, is_in, state, takes, predecessor, stands}
use Rattle.journal.specs.Journal.Seals.{anchored, delegator_of, forbids}
use Rattle.journal.specs.Journal.History.{Told}
use Rattle.journal.specs.Journal.Readiness.{meets_own, meets_before, is_backed, is_local}

-- the delegator forbids delegation, where there is one
abbrev pub is_forbidden : List Body → Option Prefix → Bool
is_forbidden log None = false
is_forbidden log (Some d) = forbids log d

-- by what is accepted it can't be: its log has another inception, it doesn't follow its predecessor, or no longer fits
-- its log, or its delegator forbids it
abbrev pub is_lost : Mode → List Body → Option State → Body → Bool
is_lost mode log s b =
    (is_inception b.event && is_some s)
    || (is_some (predecessor log b) && (not (stands log b) || not (takes s b.event)))
    || (not (is_local mode) && is_forbidden log (delegator_of s b.event))

-- the first reason that applies, of a body under the state of its identifier
abbrev pub reason_under : Mode → List Told → List Body → Option State → Body → Option Why
reason_under mode told log s b = first_true (
    (is_lost mode log s b, Never)
    ∷ (not (is_inception b.event) && is_none (predecessor log b), Predecessor)
    ∷ (not (meets_own told s b), Signatures)
    ∷ (not (meets_before told s b), Next)
    ∷ (not (is_local mode) && not (is_backed told s b), Receipts)
    ∷ (not (is_local mode) && not (anchored log s b.event), Seal)
    ∷ [])

-- why a body waits: nothing for a receipt or an accepted event
unfoldable pub why_waits : Mode → List Told → List Body → Body → Option Why
why_waits mode told log b = only (is_receipt b.event || is_in log b)
  where
    only : Bool → Option Why
    only true = None
    only false = reason_under mode told log (state log (prefix_of b.event)) b
