use Rattle.std.proofs.Common.{sym, ap, ◌∙◌, arith}
use Rattle.controller_core.specs.LogMaker.Draws.{drawn_behind}
use Rattle.controller_core.proofs.LogMakerLemmas.Rotations.{draw_at-more, rotations_before-more}
use Rattle.controller_core.proofs.log_maker.draw.Draw.next.Goals as goal

pub invariant_of-result : goal.invariant_of-result
invariant_of-result c =
    let draw = c.args.self.now in
    record {
      drawn_is = c.next_drawn.ensures ∙ ap drawn_behind draw.drawn_is ∙ sym (draw_at-more draw.seed draw.log draw.sn);
      rotations_are = c.key_number.ensures.number ∙ sym (rotations_before-more draw.seed draw.log draw.sn);
      rotations_few = omega (arith, c.key_number.ensures.few);
    }
