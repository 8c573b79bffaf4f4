use Rattle.journal.specs.declared.journal.mode.Mode.TheVariants.{Full}
use Rattle.keri_roles.proofs.keri_roles.generate.read_made.Goals as goal

pub returns : goal.returns
returns g c = rw (c.new-stream.ensures.left, c.new-stream.ensures.faults, c.from.ensures, c.from-2.ensures) at (c.read.ensures Full c.args.limits c.in_ok-seat.ensures)
