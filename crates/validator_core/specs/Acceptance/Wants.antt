-- What is wanting in an event that the current state of its identifier takes: the reasons to wait that are left of it.
use Rattle.std.specs.Prelude.{Bool, ◌≡◌, ℕ, true, ◌&&◌, ◌||◌, not, List, [], ◌∷◌, slice_get, Option, Some}
use Rattle.event_body.specs.declared.event_body.event.Event.{Event}
use Rattle.event_body.specs.EventBody.Events.{is_rotation, prefix_of}
use Rattle.journal.specs.EventRules.Parts.{Part, has_own, has_next, has_backed}
use Rattle.key_state.specs.Exposure.{own_rules}
use Rattle.key_state.specs.KeyStates.{first_true}
use Rattle.key_state.specs.States.{State}
use Rattle.journal.specs.declared.journal.body.Body.{Body}
use Rattle.journal.specs.declared.journal.mode.Mode.{Mode}
use Rattle.journal.specs.declared.journal.why.Why.{Why}
use Rattle.journal.specs.declared.journal.why.Why.TheVariants.{Signatures, Next, Receipts, Seal}
use Rattle.journal.specs.Journal.Seals.{anchored}
use Rattle.journal.specs.Journal.History.{Told}
use Rattle.journal.specs.Journal.Logs.{state, takes}
use Rattle.validator_core.specs.Tables.View.{View, body_of, log_of}
use Rattle.validator_core.specs.Acceptance.Standing.{told_of}
use Rattle.journal.specs.Journal.Readiness.{meets_own, meets_before, is_backed, is_local}

-- by its parts, and whether it is sealed
abbrev pub wants_by : Mode → (Part → Bool) → Option State → Event → Bool → Option Why
wants_by mode has s e sealed = first_true (
    (not (has_own has (own_rules s e)), Signatures)
    ∷ (not (not (is_rotation e) || has_next has s), Next)
    ∷ (not (is_local mode) && not (has_backed has (own_rules s e)), Receipts)
    ∷ (not (is_local mode) && not sealed, Seal)
    ∷ [])

-- by what was told
abbrev pub wants : Mode → List Told → List Body → Option State → Body → Option Why
wants mode told log s b = first_true (
    (not (meets_own told s b), Signatures)
    ∷ (not (meets_before told s b), Next)
    ∷ (not (is_local mode) && not (is_backed told s b), Receipts)
    ∷ (not (is_local mode) && not (anchored log s b.event), Seal)
    ∷ [])

-- it is what is wanting in the event of a number, where the state is the current one of its identifier and takes it
abbrev pub IsWanting : Mode → View → ℕ → Event → Option State → Option Why → Type 0
IsWanting mode v number e s why = (bytes : List ℕ) → slice_get v.held number ≡ Some (body_of bytes e) → s ≡ state (log_of v) (prefix_of e)
    → takes s e ≡ true → why ≡ wants mode (told_of v) (log_of v) s (body_of bytes e)
