use Rattle.std.proofs.Common.{◌≡◌, [], sym, subst}
use Rattle.turn_lock.specs.Locks.{limit_of}
use Rattle.reader_hub.specs.ReaderThreads.Starts.{AreStarted}
use Rattle.reader_hub.proofs.reader_threads.ran.fn.run_all.scope.Goals as goal

pub returns : goal.returns
returns g c =
    let all = c.end_all-ends.ensures in
    let empty : c.captures.room-started.items ≡ [] = c.requires.2.0 in
    let are = AreStarted g.S.Source.left g.S.Source.faults g.V.Verifier.says g.V.Verifier.inquiries g.V.Verifier.faults c.captures.limits (limit_of c.captures.hub.now.turn) in
    record {
      first = c.run_job-pass.result.reader;
      runs = c.run_job-pass.ensures;
      ends = record {
        ended = all.ended;
        passes_are = all.passes_are;
        readers_are = all.readers_are;
        each = all.each c.captures.others.items (c.start-started.ensures.started [] (subst (λ l. are [] l) (sym empty) tt));
      };
    }
