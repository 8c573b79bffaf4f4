-- What callers see of a core, and what is true of every core.
use Rattle.std.specs.Prelude.{◌≡◌, ℕ, ◌-◌, ◌≤◌, false, List, filter, length, sum_by, take, slice_get, All, Option, Some, None}
use Rattle.cesr_codes.specs.declared.prefix.Prefix.{Prefix}
use Rattle.keri_outside.specs.declared.limits.Limits.{Limits}
use Rattle.key_state.specs.States.{State}
use Rattle.validator_core.specs.Acceptance.Standing.{IsHeld}
use Rattle.journal.specs.declared.journal.body.Body.{Body}
use Rattle.journal.specs.declared.journal.entry.Entry.{Entry}
use Rattle.journal.specs.declared.journal.mode.Mode.{Mode}
use Rattle.journal.specs.declared.journal.why.Why.{Why}
use Rattle.journal.specs.Journal.Accepted.{accepted}
use Rattle.journal.specs.Journal.History.{Told, Triple, claims_on, has_verdict}
use Rattle.journal.specs.Journal.Journals.{told_by, InOrder}
use Rattle.journal.specs.Journal.Logs.{state}
use Rattle.journal.specs.Journal.Questions.{questions, raised_by, IsRegular}
use Rattle.journal.specs.Journal.Readiness.{is_ready}
use Rattle.journal.specs.Journal.Replies.{IsWithin}
use Rattle.journal.specs.Journal.Waiting.{why_waits}

-- the bodies, each once, with their events; how many were there from the start, counted as accepted; the entries, in order; and
-- the numbers of the accepted bodies
pub record CoreView : Type 0 where
  pub mode : Mode
  pub limits : Limits
  pub base : ℕ
  pub held : List Body
  pub entries : List Entry
  pub accepted : List ℕ

-- the bodies that were there from the start
abbrev pub base_of : CoreView → List Body
base_of core = take core.base core.held

-- what it was told
abbrev pub told_of : CoreView → List Told
told_of core = told_by core.held core.entries

-- what the definition accepts of that
abbrev pub accepted_by : CoreView → List Body
accepted_by core = accepted core.mode (base_of core) (told_of core)

-- the questions that are open
abbrev pub open_of : CoreView → List Triple
open_of core = questions core.mode (base_of core) (told_of core)

-- the state of an identifier
abbrev pub state_of : CoreView → Prefix → Option State
state_of core prefix = state (accepted_by core) prefix

-- why the body of a number waits, where it is held
abbrev pub waits_for : CoreView → ℕ → Option Why
waits_for core number = of (slice_get core.held number)
  where
    of : Option Body → Option Why
    of None = None
    of (Some b) = why_waits core.mode (told_of core) (accepted_by core) b

-- so many bytes the bodies have
abbrev pub bytes_of : List Body → ℕ
bytes_of held = sum_by (λ b. length b.bytes) held

-- Each body's event is spelled by its bytes. The bodies are those of the base and those that came, in order of first coming. Each
-- entry's body is held, each verdict was given to a question that was open, the limits are kept unless the base alone was over
-- them, and no body is ready that isn't accepted.
pub record IsSoundCore (core : CoreView) : Type 0 where
  pub spelled : All IsHeld core.held
  pub in_order : InOrder core.base core.held core.entries
  pub all_held : length (told_of core) ≡ length core.entries
  pub regular : IsRegular core.mode (base_of core) (told_of core)
  pub within : bytes_of (base_of core) ≤ core.limits.body_bytes → IsWithin core.limits (base_of core) (told_of core)
  pub settled : All (λ b. is_ready core.mode (told_of core) (accepted_by core) b ≡ false) core.held

-- so many claims on a body have no verdict: none was heard on their signature, or their keys aren't found yet
abbrev pub unheard_on : List Told → List Body → Body → ℕ
unheard_on told log b = length (claims_on told b) - length (filter (has_verdict told) (raised_by told log b))

-- and so many on all bodies
abbrev pub unheard_of : CoreView → ℕ
unheard_of core = sum_by (unheard_on (told_of core) (accepted_by core)) core.held

-- the mode, the limits and the base are the same
pub record Follows (old new : CoreView) : Type 0 where
  pub mode : new.mode ≡ old.mode
  pub limits : new.limits ≡ old.limits
  pub base : new.base ≡ old.base
  pub bodies : base_of new ≡ base_of old
