use Rattle.std.proofs.Common.{arith, refl, take}
use Rattle.verifier_link.specs.Questions.{question}
use Rattle.verifier_link.specs.Serving.{sides_shown}
use Rattle.keri_outside.specs.Shown.{sink_shown, source_shown}
use Rattle.verifier_link.proofs.Answered.{ends_reading, ends_answering, answered_more}
use Rattle.verifier_link.proofs.rehearsal_server.serve_all.Goals as goal

pub returns-in-Err : goal.returns-in-Err
returns-in-Err g c =
    let source = source_shown g.S.Source.left g.S.Source.faults in
    let sink = sink_shown g.K.Sink.written g.K.Sink.faults in
    rw c.served_at.ensures
    (ends_reading c.args.most c.questions.room (sides_shown (source c.args.source.now) (sink c.args.sink.now)) (sides_shown (source c.questions.source) (sink c.questions.sink)) c.questions.invariant.answered
    (source c.read_question.new.source) _ refl c.in-Err.stop c.in-Err.ensures.err)

pub returns-in-Err-put_answer : goal.returns-in-Err-put_answer
returns-in-Err-put_answer g c =
    let source = source_shown g.S.Source.left g.S.Source.faults in
    let sink = sink_shown g.K.Sink.written g.K.Sink.faults in
    let asked = question c.in-Ok.found.0 (take c.in-Ok.found.1 c.read_question.new.buffer) in
    let (valid, few, taken) = c.in-Ok.ensures.ok in
    let puts = c.in-Err-put_answer.ensures.written in
    ends_answering c.args.most c.questions.room (sides_shown (source c.args.source.now) (sink c.args.sink.now)) (sides_shown (source c.questions.source) (sink c.questions.sink)) c.questions.invariant.answered
    c.read_question.new.room (source c.read_question.new.source) asked valid taken (sink c.put_answer.new.sink) puts.0 puts.1 c.in-Err-put_answer.ensures.cause.failed

pub questions-preserved : goal.questions-preserved
questions-preserved g c =
    let source = source_shown g.S.Source.left g.S.Source.faults in
    let sink = sink_shown g.K.Sink.written g.K.Sink.faults in
    let asked = question c.in-Ok.found.0 (take c.in-Ok.found.1 c.read_question.new.buffer) in
    let (valid, few, taken) = c.in-Ok.ensures.ok in
    record {
      size = omega arith;
      answered = answered_more c.args.most c.questions.room (sides_shown (source c.args.source.now) (sink c.args.sink.now)) (sides_shown (source c.questions.source) (sink c.questions.sink))
          c.questions.invariant.answered c.read_question.new.room (source c.read_question.new.source) asked valid taken (sink c.put_answer.new.sink)
          (record { written = c.in_default.ensures.written; faults = c.in_default.ensures.cause.else_same });
    }
