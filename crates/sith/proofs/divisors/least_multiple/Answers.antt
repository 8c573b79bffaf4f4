use Rattle.sith.proofs.DivisorSteps.{least_of, some_divisor, multiple_range}
use Rattle.sith.proofs.divisors.least_multiple.Goals as goal

pub nonzero_div-result : goal.nonzero_div-result
nonzero_div-result c = some_divisor _ _ c.requires.one.0 c.greatest_divisor-divisor.ensures.one

pub returns-clause-multiple : goal.returns-clause-multiple
returns-clause-multiple c =
    let found = c.greatest_divisor-divisor.ensures in
    least_of _ _ _ (some_divisor _ _ c.requires.one.0 found.one) found

pub returns-clause-range : goal.returns-clause-range
returns-clause-range c =
    let found = c.greatest_divisor-divisor.ensures in
    multiple_range _ _ _ (some_divisor _ _ c.requires.one.0 found.one) found c.requires.one.0 c.requires.one.1 c.requires.other.0 c.requires.other.1
