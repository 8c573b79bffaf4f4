-- The rules of bodies, beyond the form (KERI: key event messages; this project's profile): those of the values of a
-- body's fields, and then those of the event that they are the parts of.
use Rattle.std.specs.Prelude.{◌≡◌, ◌≢◌, ◌≤◌, ◌⊎◌, ℕ, if◌then◌else◌, List, [], ◌∷◌, length, Contains}
use Rattle.std.specs.List.{AllZip}
use Rattle.lists.specs.KeriSpecs.Hex.{IsHexNumber}
use Rattle.cesr_codes.specs.declared.key.Key.{Key}
use Rattle.cesr_codes.specs.declared.key.KeyCode.TheVariants.{Fixed}
use Rattle.cesr_codes.specs.declared.prefix.Prefix.{Prefix}
use Rattle.cesr_codes.specs.declared.prefix.Prefix.TheVariants.{Basic, Said}
use Rattle.json_tree.specs.declared.tree.Tree.{Tree}
use Rattle.json_tree.specs.declared.tree.Tree.TheVariants.{Str, List as TreeList}
use Rattle.said_digest.specs.Digests.{digest_of}
use Rattle.said_digest.specs.Replaced.{placeholder}
use Rattle.sith.specs.declared.threshold.Threshold.{Threshold}
use Rattle.sith.specs.Thresholds.{Spells}
use Rattle.sith.specs.Rules.{IsReadFor}
use Rattle.event_body.specs.declared.body_fields.form.Form.{Form}
use Rattle.event_body.specs.declared.body_fields.form.Form.TheVariants as forms
use Rattle.event_body.specs.declared.body_fields.kind.Kind.{Kind}
use Rattle.event_body.specs.declared.body_fields.kind.Kind.TheVariants as kinds
use Rattle.event_body.specs.BodyFields.Maps.{form_of, fields_of}
use Rattle.event_body.specs.BodyFields.Bodies.{body_text}
use Rattle.event_body.specs.BodyFields.Forms.{prefix_value}
use Rattle.event_body.specs.EventBody.Spelling.{body_kind, further_values}
use Rattle.event_body.specs.EventBody.Events.{prefix_of, said_of, hides_prefix}
use Rattle.event_body.specs.declared.event_body.event.Event.{Event}
use Rattle.event_body.specs.declared.event_body.event.Event.TheVariants.{Icp, Rot, Dip, Drt, Rct}
use Rattle.event_body.specs.declared.event_body.inception.Inception.{Inception}
use Rattle.event_body.specs.declared.event_body.rotation.Rotation.{Rotation}

-- a list has at most 64 members
abbrev pub HasFewMembers : Tree → Type 0
HasFewMembers tree = (members : List Tree) → tree ≡ TreeList members → length members ≤ 64

-- a number has at most 16 digits
abbrev pub HasFewDigits : Tree → Type 0
HasFewDigits tree = (digits : List ℕ) → tree ≡ Str digits → IsHexNumber digits → length digits ≤ 16

-- a list of keys, digests or strings is one of at most 64
abbrev pub IsFew : Form → Tree → Type 0
IsFew forms.Keys tree = HasFewMembers tree
IsFew forms.FixedKeys tree = HasFewMembers tree
IsFew forms.Digests tree = HasFewMembers tree
IsFew forms.Strings tree = HasFewMembers tree
IsFew _ tree = Unit {0}

-- a number, and a threshold that is one, is one of at most 16 digits
abbrev pub IsShort : Form → Tree → Type 0
IsShort forms.Positive tree = HasFewDigits tree
IsShort forms.Number tree = HasFewDigits tree
IsShort forms.Threshold tree = HasFewDigits tree
IsShort _ tree = Unit {0}

-- no list of keys, digests or strings has too many members
abbrev pub AreFew : Kind → List Tree → Type 0
AreFew kind values = AllZip (λ field tree. IsFew (form_of field) tree) (fields_of kind) values

-- no number is too large
abbrev pub AreShort : Kind → List Tree → Type 0
AreShort kind values = AllZip (λ field tree. IsShort (form_of field) tree) (fields_of kind) values

-- the value spells a threshold that is read for so many as the list has
abbrev pub IsThresholdOf : Tree → Tree → Type 0
IsThresholdOf tree list = (threshold : Threshold) × (members : List Tree) × Spells threshold tree × (list ≡ TreeList members) × IsReadFor threshold (length members)

-- there is a key, and the thresholds are ones of so many keys and of so many next keys
abbrev pub AreThresholds : Tree → Tree → Tree → Tree → Type 0
AreThresholds kt k nt n = (k ≢ TreeList []) × IsThresholdOf kt k × IsThresholdOf nt n

-- the next four values are keys and next keys with such thresholds
abbrev pub BeginWithThresholds : List Tree → Type 0
BeginWithThresholds (kt ∷ k ∷ nt ∷ n ∷ values) = AreThresholds kt k nt n
BeginWithThresholds _ = ⊥

-- where the kind has keys, they and the next keys have such thresholds
abbrev pub HasThresholds : Kind → List Tree → Type 0
HasThresholds kinds.Icp (d ∷ i ∷ s ∷ values) = BeginWithThresholds values
HasThresholds kinds.Dip (d ∷ i ∷ s ∷ values) = BeginWithThresholds values
HasThresholds kinds.Rot (d ∷ i ∷ s ∷ p ∷ values) = BeginWithThresholds values
HasThresholds kinds.Drt (d ∷ i ∷ s ∷ p ∷ values) = BeginWithThresholds values
HasThresholds kinds.Ixn values = Unit {0}
HasThresholds kinds.Rct values = Unit {0}
HasThresholds _ values = ⊥

-- no key stands twice
abbrev pub AreDistinct : List Key → Type 0
AreDistinct [] = Unit {0}
AreDistinct (key ∷ keys) = ¬ Contains keys key × AreDistinct keys

-- no key is in both lists
abbrev pub AreApart : List Key → List Key → Type 0
AreApart [] others = Unit {0}
AreApart (key ∷ keys) others = ¬ Contains others key × AreApart keys others

-- so many of the witnesses can be wanted: 0 of none, and else from 1 to all
abbrev pub IsToadOf : ℕ → ℕ → Type 0
IsToadOf toad witnesses = (toad ≤ witnesses) × ((1 ≤ toad) ⊎ (witnesses ≡ 0))

-- the witnesses of an inception stand once, and so many can be wanted
abbrev pub HasWitnesses : Inception → Type 0
HasWitnesses e = AreDistinct e.list × IsToadOf e.toad (length e.list)

-- the witnesses that a rotation leaves out and adds stand once, and none in both
abbrev pub ChangesWitnesses : Rotation → Type 0
ChangesWitnesses e = AreDistinct e.cuts × AreDistinct e.adds × AreApart e.cuts e.adds

-- the rule of witnesses
abbrev pub AreWitnesses : Event → Type 0
AreWitnesses (Icp e) = HasWitnesses e
AreWitnesses (Dip e) = HasWitnesses e
AreWitnesses (Rot e) = ChangesWitnesses e
AreWitnesses (Drt e) = ChangesWitnesses e
AreWitnesses _ = Unit {0}

-- An identifier is its single key, or the digest of its inception. One whose key can't be rotated has no next keys.
abbrev pub IsPrefixOf : Prefix → Inception → Type 0
IsPrefixOf (Basic key) e = (e.keys ≡ key ∷ []) × (key.code ≡ Fixed → e.next ≡ [])
IsPrefixOf (Said digest) e = digest ≡ e.said

-- the rule of prefixes: that of a delegated inception is its digest
abbrev pub HasPrefix : Event → Type 0
HasPrefix (Icp e) = IsPrefixOf e.prefix e
HasPrefix (Dip e) = e.prefix ≡ Said e.said
HasPrefix _ = Unit {0}

-- what stands for the prefix when the digest is computed: in an inception whose prefix is a digest, which is its own by
-- the rule of prefixes, a placeholder
abbrev pub hidden_prefix : Event → Tree
hidden_prefix event = if hides_prefix event then Str placeholder else prefix_value (prefix_of event)

-- the values of which an event's digest is made (KERI: self-addressing identifiers)
abbrev pub digested_values : Event → List Tree
digested_values event = Str placeholder ∷ hidden_prefix event ∷ further_values event

-- the text of which it is made
abbrev pub digested_text : Event → List ℕ
digested_text event = body_text (body_kind event) (digested_values event)

-- the event's digest is that of its text with placeholders, under its own code
abbrev pub IsDigested : Event → Type 0
IsDigested event = said_of event ≡ digest_of (said_of event).code (digested_text event)

-- the rule of digests: a receipt's is that of another event
abbrev pub HasSaid : Event → Type 0
HasSaid (Rct receipt) = Unit {0}
HasSaid event = IsDigested event
