use Rattle.json_tree.proofs.NumberParts.{run_from, none_run}
use Rattle.json_tree.proofs.number.after_digit_run.Goals as goal

pub returns-in-Some-clause-some : goal.returns-in-Some-clause-some
returns-in-Some-clause-some c = run_from _ _ _ c.in-Some.ensures.some c.after_digits.ensures

pub returns-in-None-clause-none : goal.returns-in-None-clause-none
returns-in-None-clause-none c = none_run _ c.in-None.ensures.none
