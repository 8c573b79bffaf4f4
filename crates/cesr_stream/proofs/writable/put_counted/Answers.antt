use Rattle.std.proofs.Common.{◌∷◌, ◌++◌, flat_map, sym, ap, ◌∙◌, subst}
use Rattle.lists.specs.KeriSpecs.Base64.{base64_text}
use Rattle.lists.specs.KeriSpecs.Shown.{Puts, after}
use Rattle.lists.proofs.KeriSpecsLemmas.Putting.{front_stands, puts-behind}
use Rattle.cesr_stream.specs.Domains.{IsTurnable}
use Rattle.cesr_stream.proofs.Characters.{turnable_counter}
use Rattle.cesr_stream.proofs.writable.put_counted.Goals as goal

pub put_text-requires-clause-turnable : goal.put_text-requires-clause-turnable
put_text-requires-clause-turnable g c = subst IsTurnable (sym c.counter.ensures) (turnable_counter c.args.letter c.args.count c.requires.letter)

pub returns-in_err-put_text-clause-written : goal.returns-in_err-put_text-clause-written
returns-in_err-put_text-clause-written g c =
    let told = g.S.Sink.written in
    let in_domain = g.W.DomainWriter.in_domain in
    let rest = flat_map g.E.Writable.text c.args.all.now in
    let head = 45 ∷ c.args.letter ∷ base64_text 2 c.args.count in
    subst (Puts (told c.args.sink.now) (told c.put_text.new.sink) c.from_residual.result)
    (ap (λ counter. in_domain counter ++ in_domain rest) c.counter.ensures ∙ sym (g.met.W.DomainWriter.of_both head rest (turnable_counter c.args.letter c.args.count c.requires.letter)))
    (front_stands c.from_residual.result (told c.args.sink.now) (told c.put_text.new.sink)
    (in_domain c.counter.result) (in_domain rest) c.from_residual.ensures.0 c.in_err-put_text.ensures.written)

pub returns-clause-written : goal.returns-clause-written
returns-clause-written g c =
    let told = g.S.Sink.written in
    let in_domain = g.W.DomainWriter.in_domain in
    let rest = flat_map g.E.Writable.text c.args.all.now in
    let head = 45 ∷ c.args.letter ∷ base64_text 2 c.args.count in
    subst (Puts (told c.args.sink.now) (told c.put_all.new.sink) c.put_all.result)
    (sym (g.met.W.DomainWriter.of_both head rest (turnable_counter c.args.letter c.args.count c.requires.letter)))
    (puts-behind c.put_all.result (told c.args.sink.now) (told c.put_all.new.sink) (in_domain head) (told c.put_text.new.sink) (in_domain rest)
    (c.in_ok-put_text.ensures.written ∙ ap (λ counter. after (told c.args.sink.now) (in_domain counter)) c.counter.ensures) c.put_all.ensures.written)
