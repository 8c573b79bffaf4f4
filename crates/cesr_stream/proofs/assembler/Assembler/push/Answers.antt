use Rattle.cesr_stream.proofs.Assembling.{after_push}
use Rattle.cesr_stream.proofs.assembler.Assembler.push.Goals as goal

pub returns-clause-assembled : goal.returns-clause-assembled
returns-clause-assembled c = after_push c.push_exact.result c.args.place c.args.item c.args.self.now c.push_exact.new.self c.push_exact.ensures.answer c.push_exact.ensures.pushed
