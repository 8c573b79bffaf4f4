use Rattle.std.proofs.Common.{◌^◌, sym, ap, ◌∙◌, nat_lt}
use borrow.Author.Tests.{le-ltb}
use Rattle.controller_core.proofs.LogMakerLemmas.Rotations.{no_first, by_number}
use Rattle.controller_core.proofs.log_maker.draw.Draw.is_rotation.Goals as goal

pub returns-then-self-gt0 : goal.returns-then-self-gt0
returns-then-self-gt0 c =
    let draw = c.args.self.now in
    ap (λ n. nat_lt n (2 ^ 62)) draw.drawn_is ∙ sym (by_number draw.seed draw.log draw.sn c.if-self-gt0.true)

pub returns-else-self-gt0 : goal.returns-else-self-gt0
returns-else-self-gt0 c =
    let draw = c.args.self.now in
    le-ltb _ _ c.if-self-gt0.false ∙ sym (no_first draw.seed draw.log draw.sn c.if-self-gt0.false)
