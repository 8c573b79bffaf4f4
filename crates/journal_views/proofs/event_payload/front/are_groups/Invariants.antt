use Rattle.std.proofs.Common.{length}
use Rattle.journal_views.proofs.EventPayloadLemmas.Readings.{Left}
use Rattle.journal_views.proofs.event_payload.front.are_groups.Given as goal

-- what is left is groups just where all was
abbrev pub invariant-loop-reader : goal.invariant-loop-reader
invariant-loop-reader l = Left l.fn.reader l.reader

-- the bytes that are left
abbrev pub decreases-loop-reader : goal.decreases-loop-reader
decreases-loop-reader l = length l.reader.rest
