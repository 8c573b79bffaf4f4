-- The field maps of bodies (KERI: field maps of key event messages; this project's profile): which fields a kind has
-- behind `v` and `t`, in which order, and what may stand in each.
use Rattle.std.specs.Prelude.{ℕ, List, [], ◌∷◌, codes}
use Rattle.event_body.specs.declared.body_fields.kind.Kind.{Kind}
use Rattle.event_body.specs.declared.body_fields.kind.Kind.TheVariants.{Icp, Rot, Ixn, Dip, Drt, Rct}
use Rattle.event_body.specs.declared.body_fields.field.Field.{Field}
use Rattle.event_body.specs.declared.body_fields.field.Field.TheVariants.{Said, Identifier, First, Later, Any, Prior, KeysThreshold, Keys, NextThreshold, Next, Toad, Witnesses, Cuts, Adds, Traits, Anchors, Delegator}
use Rattle.event_body.specs.declared.body_fields.form.Form.{Form}
use Rattle.event_body.specs.declared.body_fields.form.Form.TheVariants.{Digest, Prefix, Zero, Positive, Number, Threshold, Keys as KeyList, FixedKeys, Digests, Strings, Values}

-- the kind as a body writes it
abbrev pub kind_name : Kind → List ℕ
kind_name Icp = codes "icp"
kind_name Rot = codes "rot"
kind_name Ixn = codes "ixn"
kind_name Dip = codes "dip"
kind_name Drt = codes "drt"
kind_name Rct = codes "rct"

-- the name under which a field stands
abbrev pub name_of : Field → List ℕ
name_of Said = codes "d"
name_of Identifier = codes "i"
name_of First = codes "s"
name_of Later = codes "s"
name_of Any = codes "s"
name_of Prior = codes "p"
name_of KeysThreshold = codes "kt"
name_of Keys = codes "k"
name_of NextThreshold = codes "nt"
name_of Next = codes "n"
name_of Toad = codes "bt"
name_of Witnesses = codes "b"
name_of Cuts = codes "br"
name_of Adds = codes "ba"
name_of Traits = codes "c"
name_of Anchors = codes "a"
name_of Delegator = codes "di"

-- what stands in a field
abbrev pub form_of : Field → Form
form_of Said = Digest
form_of Identifier = Prefix
form_of First = Zero
form_of Later = Positive
form_of Any = Number
form_of Prior = Digest
form_of KeysThreshold = Threshold
form_of Keys = KeyList
form_of NextThreshold = Threshold
form_of Next = Digests
form_of Toad = Number
form_of Witnesses = FixedKeys
form_of Cuts = FixedKeys
form_of Adds = FixedKeys
form_of Traits = Strings
form_of Anchors = Values
form_of Delegator = Prefix

-- the fields of an inception, of a rotation, of an interaction and of a receipt
abbrev pub inception_fields : List Field
inception_fields = Said ∷ Identifier ∷ First ∷ KeysThreshold ∷ Keys ∷ NextThreshold ∷ Next ∷ Toad ∷ Witnesses ∷ Traits ∷ Anchors ∷ []

abbrev pub delegated_inception_fields : List Field
delegated_inception_fields = Said ∷ Identifier ∷ First ∷ KeysThreshold ∷ Keys ∷ NextThreshold ∷ Next ∷ Toad ∷ Witnesses ∷ Traits ∷ Anchors ∷ Delegator ∷ []

abbrev pub rotation_fields : List Field
rotation_fields = Said ∷ Identifier ∷ Later ∷ Prior ∷ KeysThreshold ∷ Keys ∷ NextThreshold ∷ Next ∷ Toad ∷ Cuts ∷ Adds ∷ Anchors ∷ []

abbrev pub interaction_fields : List Field
interaction_fields = Said ∷ Identifier ∷ Later ∷ Prior ∷ Anchors ∷ []

abbrev pub receipt_fields : List Field
receipt_fields = Said ∷ Identifier ∷ Any ∷ []

-- the fields of a kind, in order
abbrev pub fields_of : Kind → List Field
fields_of Icp = inception_fields
fields_of Rot = rotation_fields
fields_of Ixn = interaction_fields
fields_of Dip = delegated_inception_fields
fields_of Drt = rotation_fields
fields_of Rct = receipt_fields
