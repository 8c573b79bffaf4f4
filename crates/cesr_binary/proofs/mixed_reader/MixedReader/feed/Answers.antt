use Rattle.std.proofs.Common.{ap, ◌∙◌}
use Rattle.cesr_binary.specs.Mixed.{mixed_front}
use Rattle.cesr_binary.proofs.MixedFronts.{stays-mixed_front}
use Rattle.cesr_binary.proofs.mixed_reader.MixedReader.feed.Goals as goal

pub returns-clause-stays : goal.returns-clause-stays
returns-clause-stays c =
    let r = c.self.inside in
    rw (← c.self.view_is) (λ shows.
    ap (mixed_front r.limit r.begun) c.in_ok-extend_from_slice.ensures.ok ∙ stays-mixed_front r.limit r.begun r.bytes.items c.args.piece.now shows)
