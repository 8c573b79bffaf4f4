use Rattle.sith.specs.Clauses.{AreRead}
use Rattle.sith.specs.Terms.{inner_of}
use Rattle.sith.proofs.Lists.{all_in}
use Rattle.sith.proofs.rules.is_met.Goals as goal

pub reaches_whole-requires-clause-read : goal.reaches_whole-requires-clause-read
reaches_whole-requires-clause-read c = all_in inner_of AreRead c.args.terms.now c.requires.read.1
