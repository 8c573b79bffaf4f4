use Rattle.std.proofs.Common.{ap, Some}
use Rattle.cesr_codes.proofs.WholeTexts.{refused, longer, the_one}
use Rattle.cesr_codes.proofs.spelled.of_text.Goals as goal

pub returns-in_default : goal.returns-in_default
returns-in_default g c =
    let none = refused g.P.Spelled.spelling g.P.Spelled.is_valid c.args.text.now c.in_default.field-0 c.in_default.ensures.whole in
    record { some = tt; none = none; only = λ v is e. absurd (none v is e) }

pub returns-then-found-text-clause-only : goal.returns-then-found-text-clause-only
returns-then-found-text-clause-only g c = λ v is e. ap Some (the_one g.P.Spelled.spelling g.P.Spelled.is_valid c.args.text.now c.in-Ok.found c.in-Ok.ensures.whole v is e)

pub returns-else-found-text : goal.returns-else-found-text
returns-else-found-text g c =
    let none = longer g.P.Spelled.spelling g.P.Spelled.is_valid c.args.text.now c.in-Ok.found c.in-Ok.ensures.whole c.if-found-text.false in
    record { some = tt; none = none; only = λ v is e. absurd (none v is e) }
