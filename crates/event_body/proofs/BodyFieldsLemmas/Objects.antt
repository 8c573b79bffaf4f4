-- A body's text is that of a JSON object.
use Rattle.std.proofs.Common.{◌≡◌, List, [], ◌∷◌, ◌++◌, map, refl, sym, ap, ◌∙◌, append_assoc, codes}
use Rattle.json_tree.specs.declared.tree.Tree.{Tree}
use Rattle.json_tree.specs.Spelling.{spelling, after_commas}
use Rattle.json_tree.specs.Spelling as json
use Rattle.event_body.specs.declared.body_fields.field.Field.{Field}
use Rattle.event_body.specs.BodyFields.Maps.{name_of}
use Rattle.event_body.specs.BodyFields.Bodies.{member_text, members_text}
use Rattle.event_body.specs.BodyFields.Objects.{named, further_members}

-- a further field with the comma before it
one_member : (field : Field) (value : Tree) → 44 ∷ json.member_text (named (name_of field) value) ≡ member_text field value
one_member field value =
    ap (λ x. 44 ∷ 34 ∷ x) (append_assoc (name_of field) (codes "\"") (58 ∷ spelling value) ∙ sym (append_assoc (name_of field) (codes "\":") (spelling value)))

further_text : (fields : List Field) (values : List Tree) → after_commas (map json.member_text (further_members fields values)) ≡ members_text fields values
further_text [] values = refl
further_text (field ∷ fields) [] = refl
further_text (field ∷ fields) (value ∷ values) =
    ap (λ x. x ++ after_commas (map json.member_text (further_members fields values))) (one_member field value)
    ∙ ap (λ x. member_text field value ++ x) (further_text fields values)
