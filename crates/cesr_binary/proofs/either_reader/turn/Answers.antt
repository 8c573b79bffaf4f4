use Rattle.std.proofs.Common.{arith}
use Rattle.cesr_binary.proofs.Encoded.{put_over}
use Rattle.cesr_binary.proofs.either_reader.turn.Goals as goal

pub returns-clause-text : goal.returns-clause-text
returns-clause-text c =
    put_over c.args.bytes.now c.args.characters.now c.encode_slice.new.output c.encode_slice.result c.in-Ok.count c.requires.threes c.requires.few
    (omega (arith, c.fits-characters)) (λ i. (c.type_inv.bytes i).fits) c.encode_slice.ensures.fits c.in-Ok.is c.encode_slice.ensures.written
