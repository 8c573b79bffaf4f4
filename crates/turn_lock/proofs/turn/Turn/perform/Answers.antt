use Rattle.std.proofs.Common.{rules, refl}
use Rattle.turn_lock.proofs.TurnSteps.{takes_value_out}
use Rattle.turn_lock.proofs.Acting.{ran, comes_home, came_home}
use Rattle.turn_lock.proofs.turn.Turn.perform.Goals as goal

pub load-requires : goal.load-requires
load-requires g c = (search rules, search rules, takes_value_out _ _ _ _ _ _ _ c.requires.turning.1 c.requires.live.0)

pub load-requires-2 : goal.load-requires-2
load-requires-2 g c =
    let r = g.V.Replayed in
    let t = ran r.entries r.head r.names g.F.FnOnce c.args.act c.args.seat.now.me.0 c.args.seat.now.me.1 c.load.new.seat.me _ _ _ c.requires.turning.0 c.requires.live.1 c.requires.act c.load.ensures.2 c.slot_mut-value.ensures.value record { shown = _; shows = refl; left = _; met = c.act-result.ensures; leaves = refl } in
    (search rules, search rules, comes_home r.entries r.head r.names g.F.FnOnce c.args.act _ _ _ _ _ _ _ _ c.requires.live.0 t)

pub returns-clause-performed : goal.returns-clause-performed
returns-clause-performed g c =
    let r = g.V.Replayed in
    let t = ran r.entries r.head r.names g.F.FnOnce c.args.act c.args.seat.now.me.0 c.args.seat.now.me.1 c.load.new.seat.me _ _ _ c.requires.turning.0 c.requires.live.1 c.requires.act c.load.ensures.2 c.slot_mut-value.ensures.value record { shown = _; shows = refl; left = _; met = c.act-result.ensures; leaves = refl } in
    came_home r.entries r.head r.names g.F.FnOnce c.args.act _ _ _ _ _ _ _ c.count-count.ensures t record { shown = _; shows = refl; left = _; met = c.act-result.ensures; leaves = refl } c.load-2.ensures.2
