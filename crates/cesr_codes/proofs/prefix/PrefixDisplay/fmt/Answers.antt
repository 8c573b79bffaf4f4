use Rattle.cesr_codes.proofs.Texts.{prefix_ascii}
use Rattle.cesr_codes.proofs.prefix.PrefixDisplay.fmt.Goals as goal

pub as_text-requires : goal.as_text-requires
as_text-requires g c = rw c.write.ensures (prefix_ascii c.args.self.now)
