use Rattle.std.proofs.Common.{sym, subst}
use Rattle.lists.specs.KeriSpecs.Shown.{Puts}
use Rattle.lists.proofs.KeriSpecsLemmas.Putting.{front_stands, puts-behind}
use Rattle.cesr_stream.proofs.writable.put_both.Goals as goal

pub returns-in_err-put_text-clause-written : goal.returns-in_err-put_text-clause-written
returns-in_err-put_text-clause-written g c =
    let told = g.S.Sink.written in
    let in_domain = g.W.DomainWriter.in_domain in
    let first = c.args.first.now in
    let second = c.args.second.now in
    subst (Puts (told c.args.sink.now) (told c.put_text.new.sink) c.from_residual.result) (sym (g.met.W.DomainWriter.of_both first second c.requires.turnable))
    (front_stands c.from_residual.result (told c.args.sink.now) (told c.put_text.new.sink) (in_domain first)
    (in_domain second) c.from_residual.ensures.0 c.in_err-put_text.ensures.written)

pub returns-clause-written : goal.returns-clause-written
returns-clause-written g c =
    let told = g.S.Sink.written in
    let in_domain = g.W.DomainWriter.in_domain in
    let first = c.args.first.now in
    let second = c.args.second.now in
    subst (Puts (told c.args.sink.now) (told c.put_text-2.new.sink) c.put_text-2.result) (sym (g.met.W.DomainWriter.of_both first second c.requires.turnable))
    (puts-behind c.put_text-2.result (told c.args.sink.now) (told c.put_text-2.new.sink) (in_domain first) (told c.put_text.new.sink)
    (in_domain second) c.in_ok-put_text.ensures.written c.put_text-2.ensures.written)
