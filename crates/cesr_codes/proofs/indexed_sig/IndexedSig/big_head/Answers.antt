use Rattle.cesr_codes.proofs.Indexed.{big_head, big_head_alone}
use Rattle.cesr_codes.proofs.indexed_sig.IndexedSig.big_head.Goals as goal

pub returns-in-Some : goal.returns-in-Some
returns-in-Some c =
    big_head c.args.self.now c.in-Some.ondex c.symbol-greater.result c.symbol-lesser.result c.symbol.result c.symbol-in-Some.result c.requires c.in-Some.is c.symbol-greater.ensures c.symbol-lesser.ensures
    c.symbol.ensures c.symbol-in-Some.ensures

pub returns-in-None : goal.returns-in-None
returns-in-None c = big_head_alone c.args.self.now c.symbol-greater.result c.symbol-lesser.result c.requires c.in-None.is c.symbol-greater.ensures c.symbol-lesser.ensures
