-- The members of a body, as a JSON object.
use Rattle.std.specs.Prelude.{ℕ, List, [], ◌∷◌, ◌++◌, codes}
use Rattle.json_tree.specs.declared.tree.Tree.{Tree}
use Rattle.json_tree.specs.declared.tree.Tree.TheVariants.{Str}
use Rattle.json_tree.specs.declared.tree.Member.{Member}
use Rattle.event_body.specs.declared.body_fields.kind.Kind.{Kind}
use Rattle.event_body.specs.declared.body_fields.field.Field.{Field}
use Rattle.event_body.specs.BodyFields.Maps.{kind_name, name_of, fields_of}

abbrev pub named : List ℕ → Tree → Member
named name value = record { name = name; value = value }

-- each value under its field's name
abbrev pub further_members : List Field → List Tree → List Member
further_members (field ∷ fields) (value ∷ values) = named (name_of field) value ∷ further_members fields values
further_members _ _ = []

-- the version string, the kind, and the further fields
abbrev pub members_of : List ℕ → Kind → List Tree → List Member
members_of size kind values = named (codes "v") (Str (codes "KERI10JSON" ++ (size ++ codes "_"))) ∷ named (codes "t") (Str (kind_name kind)) ∷ further_members (fields_of kind) values
