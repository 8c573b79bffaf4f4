use Rattle.blake3_hash.proofs.EightWords.{eight-append}
use Rattle.blake3_hash.proofs.parent.joined.Goals as goal

pub returns : goal.returns
returns c = eight-append c.args.left.now c.args.right.now c.told-left c.told-right
