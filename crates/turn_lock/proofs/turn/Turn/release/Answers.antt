use Rattle.std.proofs.Common.{rules, arith}
use Rattle.turn_lock.proofs.TurnSteps.{gives_back}
use Rattle.turn_lock.proofs.turn.Turn.release.Goals as goal

pub store-requires : goal.store-requires
store-requires g c =
    let t = c.requires.home in
    let taken = c.requires.taken.0 in
    (search rules, search rules, gives_back _ _ _ _ _ _ _ t.0 _ t.1 c.requires.live.0 (omega arith))
