use Rattle.std.proofs.Common.{[], false, sym, subst}
use Rattle.keri_outside.specs.Shown.{sink_shown}
use Rattle.keri_roles.specs.ItemConversion.Progress.{HasPut, progress}
use Rattle.keri_roles.proofs.ItemConversionLemmas.Pieces.{put_none}
use Rattle.keri_roles.proofs.item_conversion.convert.convert_items.Goals as goal

pub read_pieces-close-requires-clause-none_put : goal.read_pieces-close-requires-clause-none_put
read_pieces-close-requires-clause-none_put g c =
    let sink = sink_shown g.K.Sink.written g.K.Sink.faults c.args.sink.now in
    subst (λ reader. HasPut sink [] (progress reader c.args.domain false sink)) (sym c.new.ensures) (put_none c.args.limits.body c.args.domain sink)
