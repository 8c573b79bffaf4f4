use Rattle.event_body.proofs.BodyFieldsLemmas.Fronts.{behind_opening, behind_text}
use Rattle.event_body.proofs.body_fields.front.enclosed.Goals as goal

pub returns-in_default-literal-clause-none : goal.returns-in_default-literal-clause-none
returns-in_default-literal-clause-none c = λ rest e.
    c.in_default-literal.ensures.none _ (behind_opening c.args.opening.now c.args.closing.now c.args.text.now rest c.args.bytes.now c.in-Some.behind.now c.in-Some.ensures.some e)

pub returns-in_default-literal-2-clause-none : goal.returns-in_default-literal-2-clause-none
returns-in_default-literal-2-clause-none c = λ rest e.
    c.in_default-literal-2.ensures.none rest
    (behind_text c.args.opening.now c.args.closing.now c.args.text.now rest c.args.bytes.now c.in-Some.behind.now c.in-Some-literal.last.now c.in-Some.ensures.some c.in-Some-literal.ensures.some e)
