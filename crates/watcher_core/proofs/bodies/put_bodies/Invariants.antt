use Rattle.std.proofs.Common.{take}
use Rattle.journal.specs.Journal.Journals.{chosen}
use Rattle.watcher_core.specs.Named.{PutsBodies}
use Rattle.watcher_core.proofs.bodies.put_bodies.Given as goal

-- the bodies of the numbers so far are put
abbrev pub invariant-loop-number : goal.invariant-loop-number
invariant-loop-number l = PutsBodies l.fn.core (chosen l.fn.core.held (take l.number-index l.numbers)) l.fn.text.bytes.items l.text.bytes.items
