use Rattle.std.proofs.Common.{rules}
use Rattle.turn_lock.proofs.SeatSteps.{splits}
use Rattle.turn_lock.proofs.turn.Turn.split.Goals as goal

pub split_seat-seat-requires : goal.split_seat-seat-requires
split_seat-seat-requires g c =
    let old = c.args.pass.now in
    (search rules, search rules, splits _ _ _ _ _ _ old.idle.1 old.live.0 c.requires.first)
