use Rattle.std.proofs.Common.{arith}
use Rattle.cesr_codes.specs.Dates.{written}
use Rattle.cesr_codes.proofs.Dates.{mapped_more}
use Rattle.cesr_codes.proofs.shape.write_all.Goals as goal

pub loop-c-preserved : goal.loop-c-preserved
loop-c-preserved c = mapped_more written c.args.text.now c.loop-c.text c.loop-c.c-index c.written.result (omega arith) c.loop-c.invariant c.written.ensures
