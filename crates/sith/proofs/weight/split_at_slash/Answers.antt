use Rattle.sith.proofs.Slashes.{split_is}
use Rattle.sith.proofs.weight.split_at_slash.Goals as goal

pub returns-in-Some-clause-some : goal.returns-in-Some-clause-some
returns-in-Some-clause-some c = split_is _ _ _ c.in-Some.place c.in-Some.ensures.some c.split_at.ensures.front c.split_at-in-Some.ensures.back
