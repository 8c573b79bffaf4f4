use Rattle.std.proofs.Common.{take}
use Rattle.std.specs.Prelude.{flat_map}
use Rattle.journal.specs.Journal.Journals.{chosen}
use Rattle.watcher_core.specs.Named.{PutsBodies}
use Rattle.watcher_core.proofs.bodies.put_sets.Given as goal

-- the bodies of the conflicts so far are put
abbrev pub invariant-loop-conflict : goal.invariant-loop-conflict
invariant-loop-conflict l = PutsBodies l.fn.core (flat_map (λ c. chosen l.fn.core.held c.bodies) (take l.conflict-index l.conflicts)) l.fn.text.bytes.items l.text.bytes.items
