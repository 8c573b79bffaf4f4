use Rattle.std.proofs.Common.{◌≡◌, ◌+◌, ◌≤◌, ◌++◌, length, map, vec_len, vec_capacity}
use Rattle.std.specs.Iterator.Adapters.{zip_first, zip_second}
use Rattle.std.specs.Vec.Iter.{into_iter_items}
use Rattle.reader_hub.proofs.reader_threads.job.jobs_for.Given as goal

-- those so far have jobs, the others come, and there is room for them
abbrev pub invariant-loop-pass : goal.invariant-loop-pass
invariant-loop-pass g l =
    (goal.iterator-loop-pass g).can_next l.pass-iterator
    × (goal.iterator-loop-pass g).is_finite l.pass-iterator
    × (length (into_iter_items (zip_first l.pass-iterator)) ≡ length (into_iter_items (zip_second l.pass-iterator)))
    × (vec_len l.jobs + length (into_iter_items (zip_first l.pass-iterator)) ≤ vec_capacity l.jobs)
    × (map (λ job. job.pass) l.jobs.items ++ into_iter_items (zip_first l.pass-iterator) ≡ l.fn.passes.items)
    × (map (λ job. job.providers) l.jobs.items ++ into_iter_items (zip_second l.pass-iterator) ≡ l.fn.providers.items)
