use Rattle.std.proofs.Common.{refl}
use Rattle.json_tree.specs.Numbers.{IsMinus}
use Rattle.json_tree.proofs.NumberParts.{takes_one}
use Rattle.json_tree.proofs.number.after_minus.Goals as goal

pub returns-in-Some : goal.returns-in-Some
returns-in-Some c = takes_one IsMinus (λ b bs m. m.1) 45 (refl, refl) _ _ c.in-Some.ensures.some
