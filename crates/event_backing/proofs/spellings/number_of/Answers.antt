use Rattle.std.proofs.Common.{sym, arith}
use Rattle.event_backing.proofs.Hex.{spelled_is_printed, printed_spells, few_digits}
use Rattle.event_backing.proofs.spellings.number_of.Goals as goal
use Rattle.event_backing.proofs.spellings.number_of.Goals.{else-is_hex_number-via-then-is_hex_number+else-text-le-MOST_DIGITS, else-is_hex_number-via-else-is_hex_number}

pub returns-then-text-le-MOST_DIGITS-clause-some : goal.returns-then-text-le-MOST_DIGITS-clause-some
returns-then-text-le-MOST_DIGITS-clause-some c =
    let is = c.is_hex_number.ensures.0 c.if-is_hex_number.true in
    (c.hex_value.type_inv, spelled_is_printed c.hex_value.result c.args.text.now (is, sym c.hex_value.ensures) c.hex_value.type_inv)

pub returns-else-is_hex_number-clause-none : goal.returns-else-is_hex_number-clause-none
returns-else-is_hex_number-clause-none c = λ number small e.
    let is = printed_spells number c.args.text.now small e in
    elim c.else-is_hex_number.branch [
      | else-is_hex_number-via-then-is_hex_number+else-text-le-MOST_DIGITS w ↦ omega (arith, few_digits number c.args.text.now is small, w.if-text-le-MOST_DIGITS.false)
      | else-is_hex_number-via-else-is_hex_number w ↦ cc (w.if-is_hex_number.false, c.is_hex_number.ensures.1 is.0)
    ]
