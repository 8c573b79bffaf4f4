-- Events that wait (KERI, escrow).
use Rattle.std.specs.Prelude.{◌≡◌, ℕ, Option, Some}
use Rattle.std.specs.Ordering.{nat_cmp}
use Rattle.std.specs.FinMap.{FinMap, get}
use Rattle.escrow.specs.declared.escrow.room.Room.{Room}
use Rattle.escrow.specs.declared.escrow.waiter.Waiter.{Waiter}

-- the events that wait, by their numbers, and the room that is kept for one more
pub record Escrow : Type 0 where
  pub waiters : FinMap nat_cmp Waiter
  pub room : Option Room

-- the room for an event
abbrev pub room_for : Waiter → Room
room_for w = record { prior = w.prior; said = w.said }

-- the event of a number
abbrev pub held : ℕ → Escrow → Option Waiter
held n escrow = get escrow.waiters n

-- an event waits under the number, and P holds of it
abbrev pub Waits : ℕ → (Waiter → Type 0) → Escrow → Type 0
Waits n P escrow = (w : Waiter) × (held n escrow ≡ Some w) × P w
