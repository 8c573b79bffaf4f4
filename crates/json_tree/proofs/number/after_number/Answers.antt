use Rattle.json_tree.proofs.NumberParts.{number_some}
use Rattle.json_tree.proofs.number.after_number.Goals as goal

pub returns-clause-some : goal.returns-clause-some
returns-clause-some c = number_some _ _ _ _ _ c.after_minus.ensures c.in_ok-rest.ensures.some c.after_frac.ensures c.after_exp.ensures
