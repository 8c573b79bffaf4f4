use Rattle.std.proofs.Common.{arith}
use Rattle.verifier_link.proofs.Lengths.{length_text-digits}
use Rattle.verifier_link.proofs.length_digits.length_digits.Goals as goal

pub returns : goal.returns
returns c = let digits = length_text-digits c.args.length (omega arith) in cc
