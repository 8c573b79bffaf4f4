-- A body as a JSON object: what it is, and how far bytes are one.
use Rattle.std.specs.Prelude.{◌+◌, ◌≡◌, ℕ, zero, suc, List, [], ◌∷◌, ◌++◌, length, codes}
use Rattle.lists.specs.KeriSpecs.Hex.{hex_value}
use Rattle.json_tree.specs.declared.tree.Tree.{Tree}
use Rattle.json_tree.specs.Spelling.{spelling}
use Rattle.event_body.specs.declared.body_fields.kind.Kind.{Kind}
use Rattle.event_body.specs.declared.body_fields.field.Field.{Field}
use Rattle.event_body.specs.BodyFields.Versions.{IsSize, size_text, version_text}
use Rattle.event_body.specs.BodyFields.Maps.{kind_name, name_of, form_of, fields_of}
use Rattle.event_body.specs.BodyFields.Forms.{IsOfForm}

-- the kind, behind a comma
abbrev pub kind_text : Kind → List ℕ
kind_text kind = codes ",\"t\":\"" ++ (kind_name kind ++ codes "\"")

-- the version string and the kind
abbrev pub head_text : List ℕ → Kind → List ℕ
head_text size kind = version_text size ++ kind_text kind

-- a comma, a field's name in quotes, and a colon
abbrev pub name_text : Field → List ℕ
name_text field = codes ",\"" ++ (name_of field ++ codes "\":")

-- a further field: its name and the value
abbrev pub member_text : Field → Tree → List ℕ
member_text field value = name_text field ++ spelling value

-- further fields, one after the other
abbrev pub members_text : List Field → List Tree → List ℕ
members_text (field ∷ fields) (value ∷ values) = member_text field value ++ members_text fields values
members_text _ _ = []

-- what stands behind the version string: the kind, each value under its field's name, and the closing brace
abbrev pub behind_version : Kind → List Tree → List ℕ
behind_version kind values = kind_text kind ++ (members_text (fields_of kind) values ++ codes "}")

-- The text of the values. The version string has 24 characters, with the opening brace and its name, and says the size of
-- the whole.
abbrev pub body_text : Kind → List Tree → List ℕ
body_text kind values = version_text (size_text (24 + length (behind_version kind values))) ++ behind_version kind values

-- as many values as fields, each of its field's form
abbrev pub AreOfForms : List Field → List Tree → Type 0
AreOfForms [] [] = Unit {0}
AreOfForms [] (value ∷ values) = ⊥
AreOfForms (field ∷ fields) [] = ⊥
AreOfForms (field ∷ fields) (value ∷ values) = IsOfForm (form_of field) value × AreOfForms fields values

-- The bytes are a body of the kind with these values: the version string, the kind, each value under its field's name
-- in the order of the field map, and the closing brace. The version string says the body's size.
pub record IsBody (kind : Kind) (values : List Tree) (bytes : List ℕ) : Type 0 where
  pub size : List ℕ
  pub sized : IsSize size
  pub size_is : hex_value size ≡ length bytes
  pub of_forms : AreOfForms (fields_of kind) values
  pub text : bytes ≡ head_text size kind ++ (members_text (fields_of kind) values ++ codes "}")

-- so many of the fields stand at the front, one after the other; behind the last, the closing brace and the end count
-- as one more
abbrev pub Begins : ℕ → List Field → List ℕ → Type 0
Begins zero fields bytes = Unit {0}
Begins (suc n) [] bytes = bytes ≡ codes "}"
Begins (suc n) (field ∷ fields) bytes = (value : Tree) × (rest : List ℕ) × IsOfForm (form_of field) value × (bytes ≡ member_text field value ++ rest) × Begins n fields rest

-- so many fields of a kind stand in the form: the version string, the kind, and the further ones
abbrev pub Stand : ℕ → List ℕ → Type 0
Stand zero bytes = Unit {0}
Stand (suc zero) bytes = (size : List ℕ) × (rest : List ℕ) × IsSize size × (bytes ≡ version_text size ++ rest)
Stand (suc (suc n)) bytes = (size : List ℕ) × (rest : List ℕ) × (kind : Kind) × IsSize size × (bytes ≡ head_text size kind ++ rest) × Begins n (fields_of kind) rest

-- so many fields of a kind stand in the form, and of no kind more
abbrev pub EndsAt : ℕ → List ℕ → Type 0
EndsAt n bytes = Stand n bytes × ¬ Stand (suc n) bytes
