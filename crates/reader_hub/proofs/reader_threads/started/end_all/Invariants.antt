use Rattle.std.proofs.Common.{◌≡◌, ◌+◌, ◌≤◌, List, ◌∷◌, length, map, vec_len, vec_capacity}
use Rattle.std.specs.Vec.Iter.{into_iter_items}
use Rattle.turn_lock.specs.Locks.{limit_of}
use Rattle.reader_hub.specs.ReaderThreads.Starts.{AreStarted, Finished}
use Rattle.reader_hub.specs.declared.reader_threads.job.Job.{Job}
use Rattle.reader_hub.specs.declared.reader_threads.job.JobEnd.{JobEnd}
use Rattle.reader_hub.proofs.reader_threads.started.end_all.Given as goal

-- those so far have ended, and there is room for the others
abbrev pub invariant-loop-one : goal.invariant-loop-one
invariant-loop-one g l =
    (goal.iterator-loop-one g).can_next l.one-iterator
    × (goal.iterator-loop-one g).is_finite l.one-iterator
    × (vec_len l.passes + length (into_iter_items l.one-iterator) ≤ vec_capacity l.passes)
    × (vec_len l.readers + length (into_iter_items l.one-iterator) ≤ vec_capacity l.readers)
    × ((ended : List (JobEnd g.row.S.Denot g.row.V.Denot)) × (l.passes.items ≡ map (λ e. e.pass) ended) × (l.readers.items ≡ l.fn.first ∷ map (λ e. e.reader) ended)
    × ((jobs : List (Job g.row.S.Denot g.row.V.Denot)) → AreStarted g.S.Source.left g.S.Source.faults g.V.Verifier.says g.V.Verifier.inquiries g.V.Verifier.faults l.fn.limits (limit_of l.fn.hub.turn) jobs l.fn.started.items
    → Finished g.S.Source.left g.S.Source.faults g.V.Verifier.says g.V.Verifier.inquiries g.V.Verifier.faults l.fn.limits (limit_of l.fn.hub.turn) jobs (into_iter_items l.one-iterator) ended))
