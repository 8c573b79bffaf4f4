use Rattle.std.proofs.Common.{arith}
use Rattle.cesr_codes.specs.Dates.{plain}
use Rattle.cesr_codes.proofs.Dates.{mapped_more}
use Rattle.cesr_codes.proofs.shape.read_all.Goals as goal

pub loop-c-preserved : goal.loop-c-preserved
loop-c-preserved c = mapped_more plain c.args.text.now c.loop-c.text c.loop-c.c-index c.plain.result (omega arith) c.loop-c.invariant c.plain.ensures
