use Rattle.std.proofs.Common.{◌≡◌}
use Rattle.turn_lock.specs.Locks.{IsPassOf, known}
use Rattle.reader_hub.specs.SharedReader.Asks.{Asks}
use Rattle.reader_hub.proofs.shared_reader.questions.ask_open.Given as goal

-- questions were asked, and the verifier hasn't failed
abbrev pub invariant-loop : goal.invariant-loop
invariant-loop g l =
    (goal.iterator-loop g).can_next l.iterator'
    × (goal.iterator-loop g).is_finite l.iterator'
    × IsPassOf l.fn.hub.turn l.pass
    × (g.V.Verifier.says l.verifier ≡ g.V.Verifier.says l.fn.verifier)
    × (g.V.Verifier.faults l.verifier ≡ g.V.Verifier.faults l.fn.verifier)
    × Asks l.fn.extent (g.V.Verifier.says l.fn.verifier) (g.V.Verifier.inquiries l.fn.verifier) (g.V.Verifier.inquiries l.verifier) (known l.fn.pass) (known l.pass) 0 0
