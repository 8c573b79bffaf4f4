use Rattle.cesr_codes.proofs.Sigs.{stands_sig}
use Rattle.cesr_codes.proofs.sig.Sig.read_exact.Goals as goal

pub returns : goal.returns
returns c = (c.in_ok-read.ensures.judged, stands_sig c.args.bytes.now (record { raw = c.read.new.raw }) c.in_ok-read.ensures)
