use Rattle.std.proofs.Common.{sym}
use Rattle.cesr_stream.proofs.Sizes.{length-seen_text}
use Rattle.cesr_stream.proofs.writable_element.SeenWritable.size.Goals as goal

pub returns : goal.returns
returns c = sym (length-seen_text c.args.self.now)
