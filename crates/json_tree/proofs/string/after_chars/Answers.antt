use Rattle.json_tree.proofs.StringParts.{chars_more, chars_end, char_shorter}
use Rattle.json_tree.proofs.string.after_chars.Goals as goal

pub loop-more-preserved : goal.loop-more-preserved
loop-more-preserved c = λ end t. c.loop-more.invariant end (chars_more _ _ end c.in-Some.ensures.some t)

pub loop-more-smaller : goal.loop-more-smaller
loop-more-smaller c = char_shorter _ _ c.in-Some.ensures.some

pub returns-clause-chars : goal.returns-clause-chars
returns-clause-chars c = c.loop-more.invariant _ (chars_end _)
