use Rattle.std.proofs.Common.{◌≡◌, ℕ, List, None, length}
use Rattle.run_status.specs.MessageFeed.Serving.{Serves, SameLimits}
use Rattle.run_status.proofs.message_feed.items.take_items.Given as goal

-- the messages that are ended so far were taken
abbrev pub invariant-loop-bad : goal.invariant-loop-bad
invariant-loop-bad g l = record {
  not_bad : l.reader.bad ≡ None;
  serves : (fed : List ℕ) → Serves (g.T.Taker.has_taken g.first) fed l.fn.reader l.fn.assembler l.fn.taker
      → Serves (g.T.Taker.has_taken g.first) fed l.reader l.assembler l.taker × SameLimits l.fn.reader l.reader l.fn.assembler l.assembler;
}

abbrev pub decreases-loop-bad : goal.decreases-loop-bad
decreases-loop-bad g l = length l.reader.rest

abbrev pub ghost-hand_on : goal.ghost-hand_on
ghost-hand_on g a = g.first
