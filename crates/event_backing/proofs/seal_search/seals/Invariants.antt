use Rattle.std.proofs.Common.{take}
use Rattle.event_backing.specs.Listing.{AreSealsOf}
use Rattle.event_backing.proofs.seal_search.seals.Given as goal

abbrev pub invariant-loop-value : goal.invariant-loop-value
invariant-loop-value l = AreSealsOf (take l.value-index l.value-items) l.seals.items
