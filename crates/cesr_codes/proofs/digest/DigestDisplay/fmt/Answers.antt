use Rattle.cesr_codes.proofs.Texts.{digest_ascii}
use Rattle.cesr_codes.proofs.digest.DigestDisplay.fmt.Goals as goal

pub as_text-requires : goal.as_text-requires
as_text-requires g c = rw c.write.ensures (digest_ascii c.args.self.now)
