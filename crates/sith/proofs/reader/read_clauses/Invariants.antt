use Rattle.sith.specs.Thresholds.{clause_value, clause_weights, written_clause, clause_texts}
use Rattle.sith.proofs.FirstBad.{HasRead, clause_same}
use Rattle.sith.proofs.reader.read_clauses.Given as goal

-- what was read so far
abbrev pub invariant-loop-tree : goal.invariant-loop-tree
invariant-loop-tree l = HasRead clause_value written_clause clause_texts clause_weights clause_same l.clauses.items l.tree-index l.trees 0 l.number
