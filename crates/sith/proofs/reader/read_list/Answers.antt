use Rattle.json_tree.proofs.Readers.{IfErr-handed_on}
use Rattle.sith.proofs.Values.{no_form, terms_fault, clauses_fault}
use Rattle.sith.proofs.reader.read_list.Goals as goal

pub returns-in_err-read_clauses-clause-fault : goal.returns-in_err-read_clauses-clause-fault
returns-in_err-read_clauses-clause-fault c =
    IfErr-handed_on _ _ _ c.from_residual.ensures.1 (clauses_fault _ _ (c.are_clauses.ensures.0 c.if-are_clauses.true) c.in_err-read_clauses.ensures.fault)

pub returns-in_err-read_terms-clause-fault : goal.returns-in_err-read_terms-clause-fault
returns-in_err-read_terms-clause-fault c =
    IfErr-handed_on _ _ _ c.from_residual-in_err-read_terms.ensures.1 (terms_fault _ _ (c.are_terms.ensures.0 c.if-are_terms.true) c.in_err-read_terms.ensures.fault)

pub returns-clause-fault : goal.returns-clause-fault
returns-clause-fault c = no_form c.args.trees.now
    (λ all. let yes = c.are_terms.ensures.1 all in let fails = c.if-are_terms.false in cc (yes, fails))
    (λ all. let yes = c.are_clauses.ensures.1 all in let fails = c.if-are_clauses.false in cc (yes, fails))
