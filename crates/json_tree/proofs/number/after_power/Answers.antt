use Rattle.std.proofs.lemmas.Option.{IfSome_then}
use Rattle.json_tree.proofs.NumberParts.{power_some}
use Rattle.json_tree.proofs.number.after_power.Goals as goal

pub returns-clause-some : goal.returns-clause-some
returns-clause-some c = IfSome_then _ c.after_digit_run.ensures.some (λ rest t. power_some _ _ _ c.after_sign.ensures t)
