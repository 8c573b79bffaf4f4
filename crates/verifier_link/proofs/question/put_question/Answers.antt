use Rattle.std.proofs.Common.{◌++◌, length, append_assoc, subst}
use Rattle.lists.specs.KeriSpecs.Shown.{Puts}
use Rattle.verifier_link.specs.Questions.{length_text, wanted_text}
use Rattle.lists.proofs.KeriSpecsLemmas.Putting.{front_stands, puts-behind}
use Rattle.verifier_link.proofs.question.put_question.Goals as goal

pub returns-in_err-put_head-clause-written : goal.returns-in_err-put_head-clause-written
returns-in_err-put_head-clause-written g c =
    let head = wanted_text c.args.wanted.now ++ length_text (length c.args.body.now) in
    subst (λ t. Puts (g.K.Sink.written c.args.sink.now) (g.K.Sink.written c.put_head.new.sink) c.from_residual.result t)
    (append_assoc (wanted_text c.args.wanted.now) (length_text (length c.args.body.now)) c.args.body.now)
    (front_stands c.from_residual.result (g.K.Sink.written c.args.sink.now) (g.K.Sink.written c.put_head.new.sink) head c.args.body.now c.from_residual.ensures.0 c.in_err-put_head.ensures.written)

pub returns-clause-written : goal.returns-clause-written
returns-clause-written g c =
    let head = wanted_text c.args.wanted.now ++ length_text (length c.args.body.now) in
    subst (λ t. Puts (g.K.Sink.written c.args.sink.now) (g.K.Sink.written c.put.new.self) c.put.result t)
    (append_assoc (wanted_text c.args.wanted.now) (length_text (length c.args.body.now)) c.args.body.now)
    (puts-behind c.put.result (g.K.Sink.written c.args.sink.now) (g.K.Sink.written c.put.new.self) head (g.K.Sink.written c.put_head.new.sink) c.args.body.now c.in_ok-put_head.ensures.written c.put.ensures.bytes)
