use Rattle.std.proofs.Common.{ap, arith, length}
use Rattle.keri_outside.specs.Shown.{sink_shown}
use Rattle.cesr_binary.specs.MixedAnswers.{AnswersItem}
use Rattle.cesr_binary.proofs.MixedFed.{fewer_buffered}
use Rattle.keri_roles.specs.ItemConversion.Progress.{progress}
use Rattle.keri_roles.proofs.ItemConversionLemmas.Steps.{goes_further, good_still}
use Rattle.keri_roles.proofs.item_conversion.converter.Converter.write_items.Goals as goal

pub loop-bad-smaller : goal.loop-bad-smaller
loop-bad-smaller g c =
    let old = c.loop-bad.self.reader in
    let a : AnswersItem old c.next.new.self c.in-Item.item c.in-Item.field-1 = rw c.in-Item.is at c.in_ok-next.ensures.answer in
    omega (arith, fewer_buffered old c.next.new.self c.in-Item.item c.in-Item.field-1 a, ap (λ r. length r.rest) c.write.ensures.reader)

pub loop-bad-preserved : goal.loop-bad-preserved
loop-bad-preserved g c =
    let seen = sink_shown g.K.Sink.written g.K.Sink.faults in
    let old = c.loop-bad.self in
    let new = c.write.new.self in
    let a : AnswersItem old.reader c.next.new.self c.in-Item.item c.in-Item.field-1 = rw c.in-Item.is at c.in_ok-next.ensures.answer in
    record {
      not_bad = rw c.write.ensures.reader (good_still old.reader c.next.new.self c.in-Item.item c.in-Item.field-1 a);
      goes_on =
          rw c.write.ensures.reader
          (goes_further (progress c.args.self.now.reader c.args.self.now.domain c.args.self.now.sink_failed
          (seen c.args.sink.now)) old.reader c.next.new.self old.domain new.domain
          old.sink_failed new.sink_failed (seen c.loop-bad.sink)
          (seen c.write.new.sink) c.in-Item.item c.in-Item.field-1 a c.write.ensures.domain c.write.ensures.puts c.loop-bad.invariant.goes_on);
    }
