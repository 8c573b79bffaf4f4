use Rattle.cesr_codes.proofs.Texts.{number_ascii}
use Rattle.cesr_codes.proofs.number.NumberDisplay.fmt.Goals as goal

pub as_text-requires : goal.as_text-requires
as_text-requires g c = rw c.write.ensures (number_ascii c.args.self.now)
