use Rattle.cesr_codes.proofs.Texts.{sig_ascii}
use Rattle.cesr_codes.proofs.sig.SigDisplay.fmt.Goals as goal

pub as_text-requires : goal.as_text-requires
as_text-requires g c = rw c.write.ensures (sig_ascii c.args.self.now)
