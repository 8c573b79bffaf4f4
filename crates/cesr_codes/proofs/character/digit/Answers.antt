use Rattle.cesr_codes.proofs.Digits.{digit_at}
use Rattle.cesr_codes.proofs.character.digit.Goals as goal

pub returns : goal.returns
returns c = let found = digit_at c.args.c c.ranges.c.fits in record { value = found.0; few = found.2 }
