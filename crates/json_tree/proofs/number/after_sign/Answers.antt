use Rattle.json_tree.proofs.NumberParts.{sign_some, sign_none}
use Rattle.json_tree.proofs.number.after_sign.Goals as goal

pub returns-in-Some : goal.returns-in-Some
returns-in-Some c = sign_some _ _ c.in-Some.ensures.some

pub returns-in-None : goal.returns-in-None
returns-in-None c = sign_none _ c.in-None.ensures.none
