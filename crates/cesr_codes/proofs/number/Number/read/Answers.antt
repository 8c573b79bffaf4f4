use Rattle.cesr_codes.specs.Spelling.{number_text, IsNumber}
use Rattle.cesr_codes.specs.Table.{number_layouts, verdict}
use Rattle.cesr_codes.proofs.Figures.{good_number, length-number_text, same_number}
use Rattle.cesr_codes.proofs.Front.{whole}
use Rattle.cesr_codes.proofs.number.Number.read.Goals as goal

pub returns-clause-whole : goal.returns-clause-whole
returns-clause-whole c = λ number rest valid e.
    whole (verdict number_layouts) number_text IsNumber same_number good_number c.args.bytes.now c.read_exact.result number rest 24 c.read_exact.ensures valid (length-number_text number) e
