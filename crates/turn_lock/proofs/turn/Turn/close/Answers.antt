use Rattle.turn_lock.proofs.Ends.{closes}
use Rattle.turn_lock.proofs.turn.Turn.close.Goals as goal

pub returns : goal.returns
returns g c =
    let r = g.V.Replayed in
    let p = c.args.pass in
    record { closed = closes r.entries r.head r.names _ _ p.seat.me.0 _ _ c.take-value.result p.idle.1 p.live.1 c.requires.whole c.close_with-closed.ensures.values.2 c.take-value.ensures.value }
