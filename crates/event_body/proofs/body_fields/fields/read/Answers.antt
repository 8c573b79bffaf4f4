use Rattle.std.proofs.Common.{sym, ◌∙◌}
use Rattle.event_body.proofs.BodyFieldsLemmas.Heads.{none_stands, one_stands, first_fault}
use Rattle.event_body.proofs.body_fields.fields.read.Goals as goal

pub returns-in_default-clause-fault : goal.returns-in_default-clause-fault
returns-in_default-clause-fault c = none_stands c.args.bytes.now c.in_default.ensures.none

pub returns-then-hex_value-bytes-clause-fault : goal.returns-then-hex_value-bytes-clause-fault
returns-then-hex_value-bytes-clause-fault c = record {
  size = c.in-Some.size.now;
  rest = c.in-Some.rest.now;
  sized = c.in-Some.ensures.some.0;
  text = c.in-Some.ensures.some.1;
  other = λ same. c.if-hex_value-bytes.true (c.hex_value.ensures ∙ same);
}

pub returns-in_default-kind-clause-fault : goal.returns-in_default-kind-clause-fault
returns-in_default-kind-clause-fault c =
    one_stands c.args.bytes.now c.in-Some.size.now c.in-Some.rest.now c.in-Some.ensures.some.0 c.in-Some.ensures.some.1 (sym c.hex_value.ensures ∙ c.if-hex_value-bytes.false) c.in_default-kind.ensures.none

pub returns-in-Err-clause-fault : goal.returns-in-Err-clause-fault
returns-in-Err-clause-fault c =
    first_fault c.args.bytes.now c.in-Some.size.now c.in-Some.rest.now c.in-Some.ensures.some.0 c.in-Some.ensures.some.1 (sym c.hex_value.ensures ∙ c.if-hex_value-bytes.false)
    c.in-Some-kind.kind c.in-Some-kind.rest.now c.in-Err.fault c.in-Some-kind.ensures.some c.in-Err.ensures.fault
