use Rattle.json_tree.proofs.NumberParts.{frac_some}
use Rattle.json_tree.proofs.number.after_frac.Goals as goal

pub returns-in-Some-after_digit_run : goal.returns-in-Some-after_digit_run
returns-in-Some-after_digit_run c = frac_some _ _ _ c.in-Some.ensures.some c.in-Some-after_digit_run.ensures.some
