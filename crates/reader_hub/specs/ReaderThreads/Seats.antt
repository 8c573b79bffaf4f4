-- Seats of readers: passes that were never used, and room for what their readers hand back.
use Rattle.std.specs.Prelude.{◌≡◌, ℕ, suc, ◌+◌, ◌≤◌, List, [], ◌∷◌, length, Some}
use Rattle.journal.specs.declared.journal.mode.Mode.{Mode}
use Rattle.keri_outside.specs.declared.limits.Limits.{Limits}
use Rattle.turn_lock.specs.Known.{OwnsAlone}
use Rattle.turn_lock.specs.Locks.{LockId, limit_of, lock}
use Rattle.reader_hub.specs.ReaderHub.Hubs.{head_of}
use Rattle.reader_hub.specs.declared.reader_hub.core_head.CoreHead.{CoreHead}
use Rattle.reader_hub.specs.ReaderThreads.Jobs.{pass_seen, passes_seen}
use Rattle.reader_hub.specs.ReaderThreads.Rooms.{IsFree}
use Rattle.reader_hub.specs.ReaderThreads.Runs.{PassSeen}
use Rattle.reader_hub.specs.declared.reader_threads.reader_seats.ReaderSeats.{ReaderSeats}

-- a pass of the lock over a core with this head, with this number and an empty share, which was split so often and took no turn
pub record IsSeat (id : LockId) (head : CoreHead) (number splits : ℕ) (seen : PassSeen) : Type 0 where
  pub lock_is : seen.lock ≡ id
  pub head_is : seen.pass.head ≡ Some head
  pub number_is : seen.pass.number ≡ number
  pub splits_are : seen.pass.splits ≡ splits
  pub own : OwnsAlone seen.pass []
  pub no_turns : seen.pass.turns ≡ 0

-- such passes, the first with this number, none of which was ever split
abbrev pub AreSeats : LockId → CoreHead → ℕ → List PassSeen → Type 0
AreSeats id head number [] = Unit {0}
AreSeats id head number (seen ∷ others) = IsSeat id head number 0 seen × AreSeats id head (number + 1) others

module _ {S V : Type 0} where
  -- the mode of the core
  abbrev pub mode_of : ReaderSeats S V → Mode
  mode_of seats = seats.given.value.mode

  -- There is a pass for each of so many readers, of a hub for as many turns as the limits say, and room for all that they hand
  -- back.
  pub record AreReady (count : ℕ) (seats : ReaderSeats S V) : Type 0 where
    pub limits_are : seats.given.value.limits ≡ seats.limits
    pub turns : limit_of seats.hub.turn ≡ seats.limits.turns
    pub all : suc (length seats.others.items) ≡ count
    pub few : count ≤ 65535
    pub first : IsSeat (lock seats.hub.turn) (head_of seats.given.value) 0 (length seats.others.items) (pass_seen seats.first)
    pub others : AreSeats (lock seats.hub.turn) (head_of seats.given.value) 1 (passes_seen seats.others.items)
    pub jobs : IsFree (length seats.others.items) seats.jobs
    pub started : IsFree (length seats.others.items) seats.room.started
    pub passes : IsFree (length seats.others.items) seats.room.ended.passes
    pub readers : IsFree (suc (length seats.others.items)) seats.room.ended.readers

  -- so many seats at a core of this mode and these limits
  pub record HasSeats (mode : Mode) (limits : Limits) (count : ℕ) (seats : ReaderSeats S V) : Type 0 where
    pub mode_is : mode_of seats ≡ mode
    pub limits_are : seats.limits ≡ limits
    pub ready : AreReady count seats
