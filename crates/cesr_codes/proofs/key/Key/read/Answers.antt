use Rattle.cesr_codes.specs.Spelling.{key_text, IsKey}
use Rattle.cesr_codes.specs.Table.{key_layouts, verdict}
use Rattle.cesr_codes.proofs.Basic.{good_key, length-key_text}
use Rattle.cesr_codes.proofs.Front.{whole}
use Rattle.cesr_codes.proofs.Same.{same_key}
use Rattle.cesr_codes.proofs.key.Key.read.Goals as goal

pub returns-clause-whole : goal.returns-clause-whole
returns-clause-whole c = λ key rest valid e.
    whole (verdict key_layouts) key_text IsKey same_key good_key c.args.bytes.now c.read_exact.result key rest 44 c.read_exact.ensures valid (length-key_text key) e
