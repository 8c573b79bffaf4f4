use Rattle.blake3_hash.proofs.FourLanes.{transposes}
use Rattle.blake3_hash.proofs.chunk_lanes.transposed.Goals as goal

pub returns : goal.returns
returns c =
    transposes c.args.a c.requires.a c.args.b c.requires.b c.args.c c.requires.c c.args.d c.requires.d
