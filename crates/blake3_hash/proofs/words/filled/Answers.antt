use Rattle.std.proofs.Common.{refl}
use Rattle.std.proofs.lemmas.List.{drop-replicate}
use Rattle.blake3_hash.proofs.words.filled.Goals as goal

pub returns : goal.returns
returns c = rw (c.copy_from_slice.ensures.after) (rw drop-replicate refl)
