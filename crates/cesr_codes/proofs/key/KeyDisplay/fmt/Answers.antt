use Rattle.cesr_codes.proofs.Texts.{key_ascii}
use Rattle.cesr_codes.proofs.key.KeyDisplay.fmt.Goals as goal

pub as_text-requires : goal.as_text-requires
as_text-requires g c = rw c.write.ensures (key_ascii c.args.self.now)
