use Rattle.std.proofs.Common.{◌≡◌, length}
use Rattle.edges.proofs.source_over.read_from.Given as goal

-- an interrupted read took nothing
abbrev pub invariant-loop : goal.invariant-loop
invariant-loop g l =
    (g.R.Read.remaining l.reader ≡ g.R.Read.remaining l.fn.reader) × (length l.buf ≡ length l.fn.buf)
