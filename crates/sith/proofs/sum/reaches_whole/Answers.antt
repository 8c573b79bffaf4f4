use Rattle.std.proofs.Common.{ap, ◌∙◌}
use Rattle.std.proofs.Math.Dec.{leb}
use Rattle.sith.proofs.Scales.{met_at, not_both}
use Rattle.sith.proofs.sum.reaches_whole.Goals as goal

pub unreachable-requires : goal.unreachable-requires
unreachable-requires g c = not_both _ c.requires.weights.1 c.in-None.ensures.none

pub returns : goal.returns
returns g c =
    let least = c.in-Some.ensures.some in
    ap (leb c.in-Some.multiple) c.sum_of_met.ensures ∙ met_at g.M.Member.weight g.M.Member.size g.M.Member.met c.args.indices.now c.args.members.now c.args.start c.in-Some.multiple c.requires.weights.0 least.0 least.2
