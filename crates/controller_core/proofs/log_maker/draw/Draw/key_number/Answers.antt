use Rattle.std.proofs.Common.{◌+◌, sym, ap, ◌∙◌, arith}
use Rattle.controller_core.proofs.LogMakerLemmas.Rotations.{rotation-later, key_number-rotation, key_number-other}
use Rattle.controller_core.proofs.log_maker.draw.Draw.key_number.Goals as goal

pub returns-then-is_rotation-clause-number : goal.returns-then-is_rotation-clause-number
returns-then-is_rotation-clause-number c =
    let draw = c.args.self.now in
    ap (λ n. n + 1) draw.rotations_are ∙ sym (key_number-rotation draw.seed draw.log draw.sn (sym c.is_rotation.ensures ∙ c.if-is_rotation.true))

pub returns-then-is_rotation-clause-few : goal.returns-then-is_rotation-clause-few
returns-then-is_rotation-clause-few c =
    let draw = c.args.self.now in
    omega (arith, draw.rotations_few, rotation-later draw.seed draw.log draw.sn (sym c.is_rotation.ensures ∙ c.if-is_rotation.true))

pub returns-else-is_rotation-clause-number : goal.returns-else-is_rotation-clause-number
returns-else-is_rotation-clause-number c =
    let draw = c.args.self.now in
    draw.rotations_are ∙ sym (key_number-other draw.seed draw.log draw.sn (sym c.is_rotation.ensures ∙ c.if-is_rotation.false))
