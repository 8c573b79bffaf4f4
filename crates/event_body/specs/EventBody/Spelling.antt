-- The text of an event: its parts as the values of its fields, in the order of its field map, whatever its parts are
-- (KERI: version string field and field maps of key event messages).
use Rattle.std.specs.Prelude.{ℕ, List, [], ◌∷◌, Option, Some, None}
use Rattle.cesr_codes.specs.declared.prefix.Prefix.{Prefix}
use Rattle.json_tree.specs.declared.tree.Tree.{Tree}
use Rattle.json_tree.specs.declared.tree.Tree.TheVariants.{List as TreeList}
use Rattle.sith.specs.Thresholds.{threshold_value}
use Rattle.event_body.specs.declared.body_fields.kind.Kind.{Kind}
use Rattle.event_body.specs.declared.body_fields.kind.Kind.TheVariants as kinds
use Rattle.event_body.specs.BodyFields.Bodies.{body_text}
use Rattle.event_body.specs.BodyFields.Forms.{digest_value, prefix_value, keys_value, digests_value, strings_value, number_value}
use Rattle.event_body.specs.declared.event_body.event.Event.{Event}
use Rattle.event_body.specs.declared.event_body.event.Event.TheVariants.{Icp, Rot, Ixn, Dip, Drt, Rct}
use Rattle.event_body.specs.declared.event_body.inception.Inception.{Inception}
use Rattle.event_body.specs.declared.event_body.rotation.Rotation.{Rotation}
use Rattle.event_body.specs.declared.event_body.interaction.Interaction.{Interaction}
use Rattle.event_body.specs.declared.event_body.receipt_body.ReceiptBody.{ReceiptBody}
use Rattle.event_body.specs.EventBody.Events.{prefix_of, said_of}

-- the kind of its body
abbrev pub body_kind : Event → Kind
body_kind (Icp e) = kinds.Icp
body_kind (Rot e) = kinds.Rot
body_kind (Ixn e) = kinds.Ixn
body_kind (Dip e) = kinds.Dip
body_kind (Drt e) = kinds.Drt
body_kind (Rct e) = kinds.Rct

-- the last value of a delegated inception; another has none
abbrev pub delegator_values : Option Prefix → List Tree
delegator_values None = []
delegator_values (Some prefix) = prefix_value prefix ∷ []

-- what stands behind the digest and the prefix
abbrev pub inception_values : Inception → List Tree
inception_values e = number_value 0 ∷ threshold_value e.kt ∷ keys_value e.keys ∷ threshold_value e.nt ∷ digests_value e.next ∷ number_value e.toad ∷ keys_value e.list ∷ strings_value e.traits
    ∷ TreeList e.anchors ∷ delegator_values e.delegator

abbrev pub rotation_values : Rotation → List Tree
rotation_values e = number_value e.sn ∷ digest_value e.prior ∷ threshold_value e.kt ∷ keys_value e.keys ∷ threshold_value e.nt ∷ digests_value e.next ∷ number_value e.toad ∷ keys_value e.cuts
    ∷ keys_value e.adds ∷ TreeList e.anchors ∷ []

abbrev pub interaction_values : Interaction → List Tree
interaction_values e = number_value e.sn ∷ digest_value e.prior ∷ TreeList e.anchors ∷ []

abbrev pub receipt_values : ReceiptBody → List Tree
receipt_values receipt = number_value receipt.sn ∷ []

abbrev pub further_values : Event → List Tree
further_values (Icp e) = inception_values e
further_values (Rot e) = rotation_values e
further_values (Ixn e) = interaction_values e
further_values (Dip e) = inception_values e
further_values (Drt e) = rotation_values e
further_values (Rct receipt) = receipt_values receipt

-- the values of its fields behind the version string and the kind
abbrev pub values_of : Event → List Tree
values_of event = digest_value (said_of event) ∷ prefix_value (prefix_of event) ∷ further_values event

-- the whole text
abbrev pub text_of : Event → List ℕ
text_of event = body_text (body_kind event) (values_of event)
