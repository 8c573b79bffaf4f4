use Rattle.std.proofs.Common.{length, refl}
use Rattle.cesr_codes.specs.Indexed.{indexed_text, IsIndexed}
use Rattle.cesr_codes.specs.Table.{indexed_layouts, verdict}
use Rattle.cesr_codes.proofs.Front.{whole}
use Rattle.cesr_codes.proofs.Indexed.{good_indexed, same_indexed}
use Rattle.cesr_codes.proofs.indexed_sig.IndexedSig.read.Goals as goal

pub returns-clause-whole : goal.returns-clause-whole
returns-clause-whole c = λ indexed rest valid e.
    whole (verdict indexed_layouts) indexed_text IsIndexed same_indexed good_indexed c.args.bytes.now c.read_exact.result indexed rest (length (indexed_text indexed)) c.read_exact.ensures valid refl e
