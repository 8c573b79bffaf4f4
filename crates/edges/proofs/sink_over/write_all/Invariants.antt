use Rattle.std.proofs.Common.{◌≡◌, ◌≤◌, length, take}
use Rattle.lists.specs.KeriSpecs.Shown.{after}
use Rattle.edges.proofs.sink_over.write_all.Given as goal

-- the bytes that are done were added
abbrev pub invariant-loop : goal.invariant-loop
invariant-loop g l =
    (l.done ≤ length l.bytes) × (g.W.Write.contents l.writer ≡ after (g.W.Write.contents l.fn.writer) (take l.done l.bytes))
