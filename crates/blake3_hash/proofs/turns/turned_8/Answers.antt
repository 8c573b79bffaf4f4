use Rattle.std.proofs.Common.{w32}
use Rattle.std.proofs.lemmas.Simd.{below_from_Fits}
use Rattle.blake3_hash.proofs.ByteTurns.{turns_8}
use Rattle.blake3_hash.proofs.turns.turned_8.Goals as goal

pub returns : goal.returns
returns c = turns_8 c.args.words c.fits-words.0 (below_from_Fits w32 c.args.words c.fits-words.1) c.args.places c.requires
