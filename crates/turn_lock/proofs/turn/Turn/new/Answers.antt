use Rattle.std.proofs.Common.{◌∙◌, ap, ◌++◌, ◌∷◌, [], refl}
use Rattle.turn_lock.proofs.Ends.{opens}
use Rattle.turn_lock.proofs.turn.Turn.new.Goals as goal

pub new-requires : goal.new-requires
new-requires g c =
    let r = g.V.Replayed in
    let items = c.push_reserved.ensures.items ∙ ap (λ l. l ++ c.args.value ∷ []) c.in_ok-slots.ensures.items in
    rw (items, c.of-key.ensures) (opens r.entries r.head r.names (r.head c.args.value) c.args.value c.requires.empty refl)
