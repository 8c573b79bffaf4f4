use Rattle.std.proofs.Common.{◌≡◌, length}
use Rattle.keri_outside.specs.Shown.{sink_shown, source_shown}
use Rattle.verifier_link.specs.Serving.{sides_shown}
use Rattle.verifier_link.proofs.Answered.{AreAnswered}
use Rattle.verifier_link.proofs.rehearsal_server.serve_all.Given as goal

-- the questions that were read so far are answered
abbrev pub invariant-questions : goal.invariant-questions
invariant-questions g l =
    let source = source_shown g.S.Source.left g.S.Source.faults in
    let sink = sink_shown g.K.Sink.written g.K.Sink.faults in
    record {
      size : length l.buffer ≡ 65535;
      answered : AreAnswered l.most l.room (sides_shown (source l.fn.source) (sink l.fn.sink)) (sides_shown (source l.source) (sink l.sink));
    }

abbrev pub decreases-questions : goal.decreases-questions
decreases-questions g l = l.room
