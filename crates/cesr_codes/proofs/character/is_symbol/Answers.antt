use Rattle.cesr_codes.proofs.Digits.{digit_at}
use Rattle.cesr_codes.proofs.character.is_symbol.Goals as goal

pub returns : goal.returns
returns c = (digit_at c.args.c c.ranges.c.fits).1
