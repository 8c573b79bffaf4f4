use Rattle.std.proofs.Common.{◌≡◌, ℕ, ◌≤◌, []}
use Rattle.turn_lock.specs.Steps.{looked_view}
use Rattle.turn_lock.proofs.turn.Turn.acquire.Given as goal

-- the seat has looked, and nothing more
abbrev pub invariant-loop : goal.invariant-loop
invariant-loop g l = (n : ℕ) × (l.seat.me ≡ (looked_view l.initial.seat.me.0 n, [])) × (l.initial.seat.me.0.past ≤ n) × (l.seat.table_id ≡ l.initial.seat.table_id)
