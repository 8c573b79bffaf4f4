use Rattle.std.proofs.Common.{sym}
use Rattle.cesr_stream.proofs.Sizes.{length-couple_text}
use Rattle.cesr_stream.proofs.writable_element.CoupleWritable.size.Goals as goal

pub returns : goal.returns
returns c = sym (length-couple_text c.args.self.now)
