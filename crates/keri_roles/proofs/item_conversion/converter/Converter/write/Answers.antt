use Rattle.std.proofs.Common.{◌++◌, sym, subst}
use Rattle.keri_outside.specs.Shown.{sink_shown}
use Rattle.run_status.specs.RunStatus.RunEnds.{Puts}
use Rattle.cesr_binary.specs.Wire.{item_in}
use Rattle.keri_roles.proofs.ItemConversionLemmas.Steps.{put_on, put_no_more}
use Rattle.keri_roles.proofs.item_conversion.converter.Converter.write.Goals as goal

pub returns-then-not-self-clause-puts : goal.returns-then-not-self-clause-puts
returns-then-not-self-clause-puts g c = λ first text put.
    let seen = sink_shown g.K.Sink.written g.K.Sink.faults in
    let more = item_in c.args.self.now.domain c.args.item.now in
    subst (λ is. Puts (text ++ more) is first (seen c.write_in.new.sink)) (sym c.is_err-self.ensures.value)
    (put_on c.write_in.result first (seen c.args.sink.now) (seen c.write_in.new.sink) text more
    (subst (λ is. Puts text is first (seen c.args.sink.now)) c.if-not-self.true put) c.write_in.ensures.written c.write_in.ensures.cause)

pub returns-else-not-self-clause-puts : goal.returns-else-not-self-clause-puts
returns-else-not-self-clause-puts g c = λ first text put.
    let seen = sink_shown g.K.Sink.written g.K.Sink.faults in
    let more = item_in c.args.self.now.domain c.args.item.now in
    let is = c.if-not-self.false in
    subst (λ is. Puts (text ++ more) is first (seen c.args.sink.now)) (sym is)
    (put_no_more first (seen c.args.sink.now) text more (subst (λ is. Puts text is first (seen c.args.sink.now)) is put))
