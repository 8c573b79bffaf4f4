use Rattle.std.proofs.Common.{arith, sym, ◌∙◌}
use Rattle.std.specs.Fmt.{decimal}
use Rattle.std.proofs.lemmas.Fmt.{decimal_injective}
use Rattle.sith.proofs.Slashes.{no_slash, part_is}
use Rattle.sith.proofs.weight.read_part.Goals as goal
use Rattle.sith.proofs.weight.read_part.Goals.{then-numerator-eq0-via-then-numerator-eq0, then-numerator-eq0-via-else-numerator-eq0+then-numerator-denominator}

pub returns-in_default-clause-none : goal.returns-in_default-clause-none
returns-in_default-clause-none c = λ n d part is. no_slash _ (decimal n) (decimal d) c.in_default.ensures.none is

pub returns-in_default-read_decimal-clause-none : goal.returns-in_default-read_decimal-clause-none
returns-in_default-read_decimal-clause-none c = λ n d part is.
    let split = c.in-Some.ensures.some in
    c.in_default-read_decimal.ensures.none n (omega (arith, part)) (part_is n d _ _ _ part split.0 split.1 is).0

pub returns-in_default-read_decimal-2-clause-none : goal.returns-in_default-read_decimal-2-clause-none
returns-in_default-read_decimal-2-clause-none c = λ n d part is.
    let split = c.in-Some.ensures.some in
    c.in_default-read_decimal-2.ensures.none d (omega (arith, part)) (part_is n d _ _ _ part split.0 split.1 is).1

pub returns-then-numerator-eq0-clause-none : goal.returns-then-numerator-eq0-clause-none
returns-then-numerator-eq0-clause-none c = λ n d part is.
    let split = c.in-Some.ensures.some in
    let both = part_is n d _ _ _ part split.0 split.1 is in
    let top = decimal_injective n c.in-Some-read_decimal.numerator (omega (arith, part)) (omega arith) (sym both.0 ∙ c.in-Some-read_decimal.ensures.some) in
    let bottom = decimal_injective d c.in-Some-read_decimal-2.denominator (omega (arith, part)) (omega arith) (sym both.1 ∙ c.in-Some-read_decimal-2.ensures.some) in
    elim c.then-numerator-eq0.branch [
      | then-numerator-eq0-via-then-numerator-eq0 w ↦ omega (arith, part, top, bottom)
      | then-numerator-eq0-via-else-numerator-eq0+then-numerator-denominator w ↦ omega (arith, part, top, bottom)
    ]
