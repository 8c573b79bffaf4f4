use Rattle.sith.specs.Terms.{weights_in}
use Rattle.sith.specs.Thresholds.{term_value, written_value, texts_of}
use Rattle.sith.proofs.FirstBad.{HasRead, term_same}
use Rattle.sith.proofs.reader.read_terms.Given as goal

-- what was read so far
abbrev pub invariant-loop-tree : goal.invariant-loop-tree
invariant-loop-tree l = HasRead term_value written_value texts_of weights_in term_same l.terms.items l.tree-index l.trees l.initial.number l.number
