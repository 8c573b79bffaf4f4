use Rattle.json_tree.proofs.Readers.{IfErr-handed_on}
use Rattle.sith.specs.Terms.{weights_in}
use Rattle.sith.specs.Thresholds.{term_value, written_value, texts_of}
use Rattle.sith.proofs.FirstBad.{read_none, fault_next, term_same}
use Rattle.sith.proofs.reader.read_terms.Goals as goal

pub loop-tree-init : goal.loop-tree-init
loop-tree-init c = read_none term_value written_value texts_of weights_in term_same _ _ _ c.new-terms.ensures.items c.requires.number

pub returns-in_err-read_term-clause-fault : goal.returns-in_err-read_term-clause-fault
returns-in_err-read_term-clause-fault c =
    IfErr-handed_on _ _ _ c.from_residual.ensures.1
    (fault_next term_value written_value texts_of weights_in term_same _ _ _ _ _ c.loop-tree.invariant c.tree-item.result c.loop-tree-test.true c.tree-item.is _ c.in_err-read_term.ensures.fault)
