-- Texts of so few bytes with few members.
use Rattle.std.proofs.Common.{ℕ, ◌<◌, ◌^◌, List, length, sym, subst, arith}
use Rattle.event_body.specs.BodyFields.Bodies.{IsBody}
use Rattle.event_body.proofs.BodyFieldsLemmas.Texts.{is_body}
use Rattle.event_body.specs.EventBody.Judging.{HasEvent, HasValues, SpellsEvent, IsFirstFault}
use Rattle.event_body.specs.EventBody.Rules.{AreFew}
use Rattle.event_body.specs.EventBody.Spelling.{body_kind, values_of}
use Rattle.event_body.specs.declared.event_body.event.Event.{Event}
use Rattle.event_body.specs.declared.event_body.body_fault.BodyFault.{BodyFault}
use Rattle.event_body.specs.declared.event_body.body_fault.BodyFault.TheVariants.{Field, SizeField, Said, Prefix, Threshold, Witnesses, TooMany, NumberTooLarge, TooLarge}
use Rattle.controller_core.specs.ControllerCore.LastNumbers.{IsLastFault, with_number}

-- an event's text is a body of its values
body_of : (event : Event) (bytes : List ℕ) → HasEvent event bytes → IsBody (body_kind event) (values_of event) bytes
body_of event bytes has = subst (IsBody (body_kind event) (values_of event)) (sym has.text) (is_body (body_kind event) (values_of event) has.forms (subst (λ text. length text < 2 ^ 24) has.text has.sized))

few_values : (event : Event) (bytes : List ℕ) → HasEvent event bytes → HasValues AreFew bytes
few_values event bytes has = (body_kind event, values_of event, body_of event bytes has, has.few)

pub few_spelled : (event : Event) (bytes : List ℕ) → SpellsEvent event bytes → HasValues AreFew bytes
few_spelled event bytes spells = few_values event bytes spells.has

-- the fault of a text of so few bytes
pub last_of : (text : List ℕ) (fault : BodyFault) → length text < 65535 → IsFirstFault text fault → IsLastFault text (with_number fault)
last_of text SizeField short is = (short, is)
last_of text (Field n) short is = (short, is)
last_of text TooMany short is = (short, is)
last_of text TooLarge short is = absurd (omega (arith, is, short))
last_of text NumberTooLarge short (_, (kind, values, body, (few, rule))) = (short, (kind, values, body, few))
last_of text Threshold short (_, (kind, values, body, (few, _, rule))) = (short, (kind, values, body, few))
last_of text Witnesses short (_, (event, has, rule)) = (short, few_values event text has)
last_of text Prefix short (_, (event, has, rule)) = (short, few_values event text has)
last_of text Said short (_, (event, has, rule)) = (short, few_values event text has)
