use Rattle.sith.proofs.FirstBad.{bad_alone}
use Rattle.sith.proofs.reader.read_weight.Goals as goal

pub returns-in-None-clause-fault : goal.returns-in-None-clause-fault
returns-in-None-clause-fault c = bad_alone c.args.number.now c.args.text.now c.requires c.in-None.ensures.none
