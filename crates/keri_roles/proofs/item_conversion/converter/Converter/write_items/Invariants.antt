use Rattle.std.proofs.Common.{◌≡◌, None, length}
use Rattle.keri_outside.specs.Shown.{sink_shown}
use Rattle.keri_roles.specs.ItemConversion.Progress.{GoesOn, progress}
use Rattle.keri_roles.proofs.item_conversion.converter.Converter.write_items.Given as goal

-- the items so far were put
abbrev pub invariant-loop-bad : goal.invariant-loop-bad
invariant-loop-bad g l = record {
  not_bad : l.self.reader.bad ≡ None;
  goes_on : GoesOn (progress l.fn.self.reader l.fn.self.domain l.fn.self.sink_failed (sink_shown g.K.Sink.written g.K.Sink.faults l.fn.sink))
      (progress l.self.reader l.self.domain l.self.sink_failed (sink_shown g.K.Sink.written g.K.Sink.faults l.sink));
}

abbrev pub decreases-loop-bad : goal.decreases-loop-bad
decreases-loop-bad g l = length l.self.reader.rest
