use Rattle.std.proofs.Common.{arith, refl}
use Rattle.blake3_hash.proofs.Bytes.{HasBytes-keep}
use Rattle.blake3_hash.proofs.hasher.Hasher.keep.Goals as goal

pub returns-clause-has : goal.returns-clause-has
returns-clause-has c = λ before has.
    HasBytes-keep c.args.self.now _ before c.args.bytes.now _ _ has (omega arith) c.requires.room c.copy_from_slice.ensures.after refl refl refl
