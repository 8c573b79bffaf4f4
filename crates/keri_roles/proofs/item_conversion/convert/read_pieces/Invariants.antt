use Rattle.std.proofs.Common.{◌≡◌}
use Rattle.keri_roles.specs.ItemConversion.Progress.{IsIdle}
use Rattle.keri_roles.specs.ItemConversion.Converts.{bounds, ends_shown}
use Rattle.keri_roles.proofs.ItemConversionLemmas.Pieces.{HasRead}
use Rattle.keri_roles.proofs.item_conversion.convert.read_pieces.Given as goal

-- bytes were read so far, no item is whole in the rest, and there is room for so many more
abbrev pub invariant-loop-room : goal.invariant-loop-room
invariant-loop-room g l = record {
  has_read : HasRead (bounds l.fn.converter.reader.limit l.most) l.room l.fn.converter.domain
      (ends_shown g.S.Source.left g.S.Source.faults g.K.Sink.written g.K.Sink.faults l.fn.source l.fn.sink)
      (ends_shown g.S.Source.left g.S.Source.faults g.K.Sink.written g.K.Sink.faults l.source l.sink) l.converter.reader l.converter.sink_failed;
  idle : IsIdle l.converter.reader;
  same_domain : l.converter.domain ≡ l.fn.converter.domain;
}

abbrev pub decreases-loop-room : goal.decreases-loop-room
decreases-loop-room g l = l.room
