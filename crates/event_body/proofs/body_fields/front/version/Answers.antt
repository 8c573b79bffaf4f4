use Rattle.std.proofs.Common.{codes, sym, ◌∙◌, arith}
use Rattle.event_body.proofs.BodyFieldsLemmas.Fronts.{between_behind, behind_opening, same_split}
use Rattle.event_body.proofs.body_fields.front.version.Goals as goal

pub returns-in_default-clause-none : goal.returns-in_default-clause-none
returns-in_default-clause-none c = λ size rest is e. c.in_default.ensures.none _ (e ∙ between_behind (codes "{\"v\":\"KERI10JSON") (codes "_\"") size rest)

pub returns-in_default-literal-clause-none : goal.returns-in_default-literal-clause-none
returns-in_default-literal-clause-none c = λ size rest is e.
    let found = c.in-Some-size_digits.ensures.some in
    let tail = behind_opening (codes "{\"v\":\"KERI10JSON") (codes "_\"") size rest c.args.bytes.now c.in-Some.behind.now c.in-Some.ensures.some e in
    c.in_default-literal.ensures.none rest (same_split c.in-Some-size_digits.size.now size _ _ (omega (arith, found.0.0, is.0)) (sym found.1 ∙ tail)).1
