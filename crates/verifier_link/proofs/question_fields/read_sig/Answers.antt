use Rattle.std.proofs.Common.{arith}
use Rattle.verifier_link.proofs.question_fields.read_sig.Goals as goal

pub returns-in-None-clause-err : goal.returns-in-None-clause-err
returns-in-None-clause-err g c =
    let taken = c.in_ok-take_field.ensures.ok in
    let counted = taken.counted in
    (c.take_field.new.field, omega arith, omega (arith, counted), λ (sig, valid, is). c.in-None.ensures.none sig valid is, taken.gave)
