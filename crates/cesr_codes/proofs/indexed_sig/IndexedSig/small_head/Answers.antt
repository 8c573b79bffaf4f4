use Rattle.std.proofs.Common.{refl, Some, None}
use Rattle.cesr_codes.proofs.Indexed.{small_head}
use Rattle.cesr_codes.proofs.indexed_sig.IndexedSig.small_head.Goals as goal

pub returns-in-Some : goal.returns-in-Some
returns-in-Some c = small_head c.args.self.now 65 c.symbol.result (Some c.in-Some.field-0) c.requires c.in-Some.is refl c.symbol.ensures

pub returns-in-None : goal.returns-in-None
returns-in-None c = small_head c.args.self.now 66 c.symbol-in-None.result None c.requires c.in-None.is refl c.symbol-in-None.ensures
