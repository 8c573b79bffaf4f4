use Rattle.json_tree.proofs.NumberParts.{digits_more, digits_end}
use Rattle.json_tree.proofs.number.after_digits.Goals as goal

pub loop-more-preserved : goal.loop-more-preserved
loop-more-preserved c = λ end t. c.loop-more.invariant end (digits_more _ _ end c.in-Some.ensures.some t)

pub returns : goal.returns
returns c = c.loop-more.invariant _ (digits_end _ c.in_default.ensures.none)
