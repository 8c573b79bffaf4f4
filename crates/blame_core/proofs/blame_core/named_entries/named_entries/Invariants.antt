use Rattle.escrow.specs.EventIndex.Keys.{numbers_at}
use Rattle.blame_core.specs.BlameCore.NamedEntries.{AreNamed, name_cmp}
use Rattle.blame_core.proofs.blame_core.named_entries.named_entries.Given as goal

-- the entries so far are named
abbrev pub invariant-loop-i : goal.invariant-loop-i
invariant-loop-i l = AreNamed l.fn.core.held l.fn.core.entries l.i (numbers_at name_cmp l.named)
