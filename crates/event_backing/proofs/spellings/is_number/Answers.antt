use Rattle.event_backing.proofs.Hex.{number-test, number-other}
use Rattle.event_backing.proofs.spellings.is_number.Goals as goal

pub returns-in-Some : goal.returns-in-Some
returns-in-Some c = number-test c.args.text.now c.in-Some.found c.args.number c.in-Some.ensures.some.0 c.ranges.number.fits c.in-Some.ensures.some.1

pub returns-in-None : goal.returns-in-None
returns-in-None c = number-other c.args.text.now c.args.number c.ranges.number.fits c.in-None.ensures.none
