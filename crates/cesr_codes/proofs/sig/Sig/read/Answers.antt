use Rattle.cesr_codes.specs.Spelling.{sig_text, IsSig}
use Rattle.cesr_codes.specs.Table.{sig_layouts, verdict}
use Rattle.cesr_codes.proofs.Front.{whole}
use Rattle.cesr_codes.proofs.Same.{same_sig}
use Rattle.cesr_codes.proofs.Sigs.{good_sig, length-sig_text}
use Rattle.cesr_codes.proofs.sig.Sig.read.Goals as goal

pub returns-clause-whole : goal.returns-clause-whole
returns-clause-whole c = λ sig rest valid e.
    whole (verdict sig_layouts) sig_text IsSig same_sig good_sig c.args.bytes.now c.read_exact.result sig rest 88 c.read_exact.ensures valid (length-sig_text sig) e
