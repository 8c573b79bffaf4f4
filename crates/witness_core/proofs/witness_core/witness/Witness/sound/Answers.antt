use Rattle.witness_core.proofs.WitnessLinkLemmas.Holding.{all_kept}
use Rattle.witness_core.proofs.WitnessLinkLemmas.Lawful.{sound}
use Rattle.witness_core.proofs.witness_core.witness.Witness.sound.Goals as goal

pub returns : goal.returns
returns g c = λ whole.
    let w = c.args.self.now in
    sound w.core w.shelf.list w.shelf.limits w.shelf.broken (g.D.Disk.shown w.shelf.disk) w.room (w.stored whole) c.journal-journal.ensures.sound
    (all_kept w.core c.journal-journal.ensures.sound c.spelled_is_kept.ensures) w.key w.limits w.broken
