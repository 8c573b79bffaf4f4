use Rattle.json_tree.proofs.NumberParts.{int_zero}
use Rattle.json_tree.proofs.number.after_int.Goals as goal

pub returns-in-Some-clause-some : goal.returns-in-Some-clause-some
returns-in-Some-clause-some c = int_zero _ _ c.in-Some.ensures.some
