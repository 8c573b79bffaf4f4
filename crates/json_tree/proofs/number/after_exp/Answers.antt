use Rattle.json_tree.proofs.NumberParts.{exp_some, exp_none}
use Rattle.json_tree.proofs.number.after_exp.Goals as goal

pub returns-in_default : goal.returns-in_default
returns-in_default c = exp_none _ c.in_default.ensures.none

pub returns-in-Some-after_power : goal.returns-in-Some-after_power
returns-in-Some-after_power c = exp_some _ _ _ c.in-Some.ensures.some c.in-Some-after_power.ensures.some
