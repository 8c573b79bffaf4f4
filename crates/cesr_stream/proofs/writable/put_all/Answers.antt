use Rattle.std.proofs.Common.{flat_map, refl, sym, ap, ◌∙◌, arith, subst}
use Rattle.std.proofs.lemmas.List.{take_all}
use Rattle.lists.specs.KeriSpecs.Shown.{Puts, after}
use Rattle.lists.proofs.KeriSpecsLemmas.Putting.{after-nil, put_front, put_more}
use Rattle.cesr_stream.proofs.Domains.{in_domain-flat_map}
use Rattle.cesr_stream.proofs.writable.put_all.Goals as goal

pub loop-one-init : goal.loop-one-init
loop-one-init g c = record { written = after-nil (g.S.Sink.written c.args.sink.now); faults = refl }

pub returns-in_err-put-clause-written : goal.returns-in_err-put-clause-written
returns-in_err-put-clause-written g c =
    let told = g.S.Sink.written in
    let in_domain = g.W.DomainWriter.in_domain in
    subst (Puts (told c.args.sink.now) (told c.put.new.sink) c.from_residual.result)
    (sym (in_domain-flat_map g.E.Writable.text c.requires in_domain g.met.W.DomainWriter.of_none g.met.W.DomainWriter.of_both c.args.all.now))
    (put_front (λ one. in_domain (g.E.Writable.text one)) c.args.all.now c.loop-one.one-index c.one-item.result c.loop-one-test.true c.one-item.is
    c.from_residual.result (told c.args.sink.now) (told c.loop-one.sink)
    (told c.put.new.sink) c.from_residual.ensures.0 c.loop-one.invariant.written c.in_err-put.ensures.written)

pub loop-one-preserved : goal.loop-one-preserved
loop-one-preserved g c =
    let told = g.S.Sink.written in
    record {
      written =
          put_more (λ one. g.W.DomainWriter.in_domain (g.E.Writable.text one)) c.args.all.now c.loop-one.one-index c.one-item.result c.loop-one-test.true c.one-item.is
          (told c.args.sink.now)
          (told c.loop-one.sink) (told c.put.new.sink) c.loop-one.invariant.written c.in_ok-put.ensures.written;
      faults = c.in_ok-put.ensures.cause.else_same ∙ c.loop-one.invariant.faults;
    }

pub returns-clause-written : goal.returns-clause-written
returns-clause-written g c =
    let old = g.S.Sink.written c.args.sink.now in
    let in_domain = g.W.DomainWriter.in_domain in
    c.loop-one.invariant.written
    ∙ ap (λ all. after old (flat_map (λ one. in_domain (g.E.Writable.text one)) all))
    (take_all c.loop-one.one-index c.args.all.now (omega (arith, c.loop-one-test.false)))
    ∙ ap (after old) (sym (in_domain-flat_map g.E.Writable.text c.requires in_domain g.met.W.DomainWriter.of_none g.met.W.DomainWriter.of_both c.args.all.now))
