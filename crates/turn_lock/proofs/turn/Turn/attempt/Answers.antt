use Rattle.std.proofs.Common.{rules, ◌≡◌, ap, subst, sym, true, refl}
use Rattle.turn_lock.specs.Histories.{has_share}
use Rattle.turn_lock.proofs.TurnSteps.{looks, takes_turn}
use Rattle.turn_lock.proofs.turn.Turn.attempt.Goals as goal

pub load-found-requires : goal.load-found-requires
load-found-requires g c = (search rules, search rules, looks _ _ _ _ _ _ _ c.requires.idle.1)

pub compare_exchange-held-requires : goal.compare_exchange-held-requires
compare_exchange-held-requires g c =
    let now = c.load-found.ensures.2.0 in
    (search rules, search rules, takes_turn _ _ _ _ _ _ _ _ _ (ap (λ m. m.0.stage) now) (subst (λ m. has_share m.0.own m.0.number ≡ true) (sym now) c.requires.live.0) (search rules) refl)
