use Rattle.std.proofs.Common.{◌≡◌, ◌≤◌, length, Some}
use Rattle.turn_lock.specs.Locks.{IsPassOf, known, lock}
use Rattle.reader_hub.specs.declared.reader_hub.core_head.CoreHead.{CoreHead}
use Rattle.reader_hub.specs.ReaderThreads.Jobs.{passes_seen}
use Rattle.reader_hub.specs.ReaderThreads.Seats.{AreSeats}
use Rattle.reader_hub.proofs.reader_threads.passes.split_off.Given as goal

-- so many were split off
abbrev pub invariant-loop : goal.invariant-loop
invariant-loop l =
    IsPassOf l.fn.hub.turn l.first
    × (l.counter ≤ l.count)
    × (length l.passes.items ≡ l.counter)
    × (known l.first ≡ record (known l.initial.first) { splits = l.counter })
    × ((head : CoreHead) → (known l.initial.first).head ≡ Some head → AreSeats (lock l.fn.hub.turn) head 1 (passes_seen l.passes.items))
