use Rattle.std.proofs.Common.{arith}
use Rattle.std.proofs.lemmas.List.{take_all}
use Rattle.blake3_hash.proofs.hasher.Hasher.add_group.Goals as goal

pub returns-else-count-eq0-clause-has : goal.returns-else-count-eq0-clause-has
returns-else-count-eq0-clause-has c = λ before has. rw (take_all 8192 c.args.group.now (omega arith)) at (c.add_first.ensures.has before has)
