use Rattle.std.proofs.Common.{◌≡◌, ◌≤◌, ℕ, false, Some, slice_get}
use Rattle.validator_core.specs.Tables.AcceptedLog.Hints.{is_state_of}
use Rattle.validator_core.proofs.tables.accepted_log.hints.last_at.Given as goal

-- those behind are of no state of the identifier
abbrev pub invariant-loop-i : goal.invariant-loop-i
invariant-loop-i l = (k n : ℕ) → l.i ≤ k → slice_get l.numbers k ≡ Some n → is_state_of l.prefix (slice_get l.states n) ≡ false
