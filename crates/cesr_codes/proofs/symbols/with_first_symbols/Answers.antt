use Rattle.std.proofs.Common.{◌-◌, length, arith}
use Rattle.cesr_codes.proofs.Groups.{behind_first}
use Rattle.cesr_codes.proofs.symbols.with_first_symbols.Goals as goal

pub returns : goal.returns
returns c = behind_first 88 (88 - length c.args.digits.now) 65 _ _ _ (omega arith) c.split_at_mut-last.ensures.front c.copy_from_slice.ensures.after
