use Rattle.std.proofs.Common.{◌≡◌, ◌+◌, ◌-◌, ◌≤◌, length}
use Rattle.controller_core.specs.LogMaker.Streams.{messages_from}
use Rattle.controller_core.proofs.log_maker.totals.log_totals.Given as goal

abbrev pub invariant-events : goal.invariant-events
invariant-events l = record {
  seed_is : l.next.seed ≡ l.fn.seed;
  log_is : l.next.log ≡ l.fn.log;
  within : l.next.sn ≤ l.fn.events;
  some : l.next.sn ≤ l.bytes;
  counted : l.bytes + length (messages_from l.fn.seed l.fn.log l.next.sn (l.fn.events - l.next.sn)) ≡ length (messages_from l.fn.seed l.fn.log 0 l.fn.events);
}

abbrev pub decreases-events : goal.decreases-events
decreases-events l = l.fn.events - l.next.sn
