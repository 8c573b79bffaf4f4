use Rattle.cesr_codes.proofs.Dates.{moment_ascii}
use Rattle.cesr_codes.proofs.moment.MomentDisplay.fmt.Goals as goal

pub as_text-requires : goal.as_text-requires
as_text-requires g c = rw c.write.ensures (moment_ascii c.args.self.now)
