use Rattle.cesr_codes.specs.Spelling.{prefix_text, IsPrefix}
use Rattle.cesr_codes.specs.Table.{prefix_layouts, verdict}
use Rattle.cesr_codes.proofs.Basic.{good_prefix, length-prefix_text}
use Rattle.cesr_codes.proofs.Front.{whole}
use Rattle.cesr_codes.proofs.Same.{same_prefix}
use Rattle.cesr_codes.proofs.prefix.Prefix.read.Goals as goal

pub returns-clause-whole : goal.returns-clause-whole
returns-clause-whole c = λ prefix rest valid e.
    whole (verdict prefix_layouts) prefix_text IsPrefix same_prefix good_prefix c.args.bytes.now c.read_exact.result prefix rest 44 c.read_exact.ensures valid (length-prefix_text prefix) e
