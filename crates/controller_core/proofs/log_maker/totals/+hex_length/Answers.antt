use Rattle.std.proofs.Common.{◌+◌, false, length, sym, ap, ◌∙◌, arith}
use Rattle.std.proofs.lemmas.Fmt.{hex_one_digit}
use Rattle.controller_core.proofs.LogMakerLemmas.Hexadecimals.{one_more}
use Rattle.controller_core.proofs.LogMakerLemmas.Lengths.{digits_few}
use Rattle.controller_core.proofs.log_maker.totals.+hex_length.Goals as goal

pub returns-then-number-lt16-clause-digits : goal.returns-then-number-lt16-clause-digits
returns-then-number-lt16-clause-digits t c = sym (ap length (hex_one_digit false c.args.number c.if-number-lt16.true))

pub returns-else-number-lt16-clause-digits : goal.returns-else-number-lt16-clause-digits
returns-else-number-lt16-clause-digits t c =
    ap (λ k. 1 + k) c.hex_length.ensures.digits ∙ sym (one_more c.args.number c.if-number-lt16.false c.ranges.number.fits)

pub returns-else-number-lt16-clause-few : goal.returns-else-number-lt16-clause-few
returns-else-number-lt16-clause-few t c =
    omega (arith, c.hex_length.ensures.digits, one_more c.args.number c.if-number-lt16.false c.ranges.number.fits, digits_few c.args.number)
