use Rattle.std.proofs.Common.{sym}
use Rattle.cesr_stream.proofs.Sizes.{length-anchor_text}
use Rattle.cesr_stream.proofs.writable_element.AnchorCoupleWritable.size.Goals as goal

pub returns : goal.returns
returns c = sym (length-anchor_text c.args.self.now)
