use Rattle.json_tree.proofs.Readers.{IfErr-handed_on}
use Rattle.sith.specs.Thresholds.{clause_value, written_clause, clause_texts, clause_weights}
use Rattle.sith.proofs.FirstBad.{fault_next, clause_same}
use Rattle.sith.proofs.reader.read_clauses.Goals as goal

pub returns-in_err-read_clause-clause-fault : goal.returns-in_err-read_clause-clause-fault
returns-in_err-read_clause-clause-fault c =
    IfErr-handed_on _ _ _ c.from_residual.ensures.1
    (fault_next clause_value written_clause clause_texts clause_weights clause_same _ _ _ _ _ c.loop-tree.invariant c.tree-item.result c.loop-tree-test.true c.tree-item.is _ c.in_err-read_clause.ensures.fault)
