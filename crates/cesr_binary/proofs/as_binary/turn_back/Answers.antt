use Rattle.std.proofs.Common.{sym, ◌∙◌}
use Rattle.cesr_binary.proofs.Encoded.{decoded_binary}
use Rattle.cesr_binary.proofs.as_binary.turn_back.Goals as goal

pub unreachable-requires : goal.unreachable-requires
unreachable-requires c =
    let failed = rw c.in-Err.is at c.decode_slice_unchecked.ensures.err in
    cc (sym (decoded_binary c.args.text.now c.requires.turnable) ∙ failed)

pub returns-clause-turned : goal.returns-clause-turned
returns-clause-turned c =
    let into = rw c.in-Ok.is at c.decode_slice_unchecked.ensures.ok in
    cc (sym into.0 ∙ decoded_binary c.args.text.now c.requires.turnable)
