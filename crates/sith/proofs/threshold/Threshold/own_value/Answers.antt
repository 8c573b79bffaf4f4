use Rattle.sith.proofs.OwnValues as own
use Rattle.sith.proofs.threshold.Threshold.own_value.Goals as goal

pub returns : goal.returns
returns c = own.own_value c.args.self.now c.held.ensures
