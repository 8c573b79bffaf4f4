use Rattle.std.proofs.Common.{◌-◌, length, arith}
use Rattle.cesr_codes.proofs.Groups.{behind_first}
use Rattle.cesr_codes.proofs.symbols.with_zeros.Goals as goal

pub returns : goal.returns
returns c = behind_first 66 (66 - length c.args.raw.now) 0 _ _ _ (omega arith) c.split_at_mut-last.ensures.front c.copy_from_slice.ensures.after
