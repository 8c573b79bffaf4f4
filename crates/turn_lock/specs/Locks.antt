-- Which lock a pass is of, and what it knows.
use Rattle.std.specs.Prelude.{◌≡◌, ℕ}
use Rattle.atomic_table.specs.Seated.{TableId}
use Rattle.turn_lock.specs.declared.pass.Pass.{Pass}
use Rattle.turn_lock.specs.declared.turn.Turn.{Turn}
use Rattle.turn_lock.specs.Known.{Known, known_of}

-- what tells one lock from another
abbrev pub LockId : Type 0
LockId = TableId

module _ {V E H : Type 0} where
  -- how many turns the lock was made for
  abbrev pub limit_of : Turn V E H → ℕ
  limit_of t = t.limit

  -- which lock it is
  abbrev pub lock : Turn V E H → LockId
  lock t = t.table.shared.table_id

  module _ {g : _} where
    -- what the pass knows
    abbrev pub known : Pass V E H g → Known E H
    known p = known_of p.seat.me.0

    -- the lock that the pass is of
    abbrev pub lock_of : Pass V E H g → LockId
    lock_of p = p.seat.table_id

    -- p is a pass of the lock t
    abbrev pub IsPassOf : Turn V E H → Pass V E H g → Type 0
    IsPassOf t p = lock_of p ≡ lock t
