use Rattle.cesr_stream.proofs.Sizes.{size_big, size_small}
use Rattle.cesr_stream.proofs.writable_element.IndexedSigWritable.size.Goals as goal

pub returns-then-self : goal.returns-then-self
returns-then-self c = size_big c.args.self.now c.if-self.true

pub returns-else-self : goal.returns-else-self
returns-else-self c = size_small c.args.self.now c.if-self.false
