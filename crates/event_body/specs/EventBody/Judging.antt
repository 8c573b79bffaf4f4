-- How a body is judged: the event that it spells, or the first rule that it fails.
use Rattle.std.specs.Prelude.{◌≡◌, ℕ, ◌<◌, ◌≤◌, ◌^◌, List, length}
use Rattle.std.specs.declared.result.Result.{Result}
use Rattle.std.specs.declared.result.Result.TheVariants.{Ok, Err}
use Rattle.json_tree.specs.declared.tree.Tree.{Tree}
use Rattle.event_body.specs.declared.body_fields.kind.Kind.{Kind}
use Rattle.event_body.specs.BodyFields.Versions.{HasOtherSize}
use Rattle.event_body.specs.BodyFields.Bodies.{IsBody, EndsAt, AreOfForms}
use Rattle.event_body.specs.BodyFields.Maps.{fields_of}
use Rattle.event_body.specs.EventBody.Ranges.{AreInRange}
use Rattle.event_body.specs.EventBody.Spelling.{body_kind, values_of, text_of}
use Rattle.event_body.specs.EventBody.Rules.{AreFew, AreShort, HasThresholds, AreWitnesses, HasPrefix, HasSaid}
use Rattle.event_body.specs.declared.event_body.event.Event.{Event}
use Rattle.event_body.specs.declared.event_body.body_fault.BodyFault.{BodyFault}
use Rattle.event_body.specs.declared.event_body.body_fault.BodyFault.TheVariants.{Field, SizeField, Said, Prefix, Threshold, Witnesses, TooMany, NumberTooLarge, TooLarge}
use Rattle.event_body.specs.declared.event_body.body_fault.ReadBody.{ReadBody}
use Rattle.event_body.specs.declared.event_body.body_fault.ReadBody.TheVariants.{Fault, OutOfMemory}

-- The bytes are the event's text, whose values are of their forms, and no rule of the values fails. The version string
-- has six digits for the size.
pub record HasEvent (event : Event) (bytes : List ℕ) : Type 0 where
  pub text : bytes ≡ text_of event
  pub sized : length bytes < 2 ^ 24
  pub ranges : AreInRange event
  pub forms : AreOfForms (fields_of (body_kind event)) (values_of event)
  pub few : AreFew (body_kind event) (values_of event)
  pub short : AreShort (body_kind event) (values_of event)
  pub thresholds : HasThresholds (body_kind event) (values_of event)

-- The bytes are the event's text, and no rule fails.
pub record SpellsEvent (event : Event) (bytes : List ℕ) : Type 0 where
  pub has : HasEvent event bytes
  pub witnesses : AreWitnesses event
  pub prefix : HasPrefix event
  pub said : HasSaid event

-- a body spells the event
abbrev pub IsSpelled : Event → Type 0
IsSpelled event = (bytes : List ℕ) × SpellsEvent event bytes × (length bytes ≤ 65535)

-- the bytes are a body, with values of which this is so
abbrev pub HasValues : (Kind → List Tree → Type 0) → List ℕ → Type 0
HasValues P bytes = (kind : Kind) × (values : List Tree) × IsBody kind values bytes × P kind values

-- the bytes are the text of an event of which this is so
abbrev pub HasEventThat : (Event → Type 0) → List ℕ → Type 0
HasEventThat P bytes = (event : Event) × HasEvent event bytes × P event

-- The rule that fails, where those before it don't. The order is: too large, another size than it says, not of the
-- form, too many members, a number too large, the thresholds, the witnesses, the prefix, the digest.
abbrev pub IsFirstFault : List ℕ → BodyFault → Type 0
IsFirstFault bytes TooLarge = 65535 < length bytes
IsFirstFault bytes SizeField = (length bytes ≤ 65535) × HasOtherSize bytes
IsFirstFault bytes (Field n) = (length bytes ≤ 65535) × ¬ HasOtherSize bytes × EndsAt n bytes
IsFirstFault bytes TooMany = (length bytes ≤ 65535) × HasValues (λ kind values. ¬ AreFew kind values) bytes
IsFirstFault bytes NumberTooLarge = (length bytes ≤ 65535) × HasValues (λ kind values. AreFew kind values × ¬ AreShort kind values) bytes
IsFirstFault bytes Threshold = (length bytes ≤ 65535) × HasValues (λ kind values. AreFew kind values × AreShort kind values × ¬ HasThresholds kind values) bytes
IsFirstFault bytes Witnesses = (length bytes ≤ 65535) × HasEventThat (λ event. ¬ AreWitnesses event) bytes
IsFirstFault bytes Prefix = (length bytes ≤ 65535) × HasEventThat (λ event. AreWitnesses event × ¬ HasPrefix event) bytes
IsFirstFault bytes Said = (length bytes ≤ 65535) × HasEventThat (λ event. AreWitnesses event × HasPrefix event × ¬ HasSaid event) bytes

-- the event that the body spells, or the first rule that it fails; or there was no memory
abbrev pub Judges : List ℕ → Result Event ReadBody → Type 0
Judges bytes (Ok event) = (length bytes ≤ 65535) × SpellsEvent event bytes
Judges bytes (Err (Fault fault)) = IsFirstFault bytes fault
Judges bytes (Err OutOfMemory) = Unit {0}
