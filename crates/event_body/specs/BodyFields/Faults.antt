-- What reading a body finds.
use Rattle.std.specs.Prelude.{◌≡◌, ℕ, suc, ◌+◌, List, ◌++◌, codes}
use Rattle.json_tree.specs.declared.tree.Tree.{Tree}
use Rattle.event_body.specs.declared.body_fields.kind.Kind.{Kind}
use Rattle.event_body.specs.declared.body_fields.fields_fault.FieldsFault.{FieldsFault}
use Rattle.event_body.specs.declared.body_fields.fields_fault.FieldsFault.TheVariants.{OtherSize, Ends, OutOfMemory}
use Rattle.event_body.specs.BodyFields.Versions.{HasOtherSize}
use Rattle.event_body.specs.BodyFields.Maps.{fields_of}
use Rattle.event_body.specs.BodyFields.Bodies.{AreOfForms, members_text, Begins, EndsAt}

-- The first rule that the bytes fail. The size is looked at before the fields.
abbrev pub IsFault : List ℕ → FieldsFault → Type 0
IsFault bytes OtherSize = HasOtherSize bytes
IsFault bytes (Ends n) = ¬ HasOtherSize bytes × EndsAt n bytes
IsFault bytes OutOfMemory = Unit {0}

-- the bytes behind a kind are the kind's fields with these values, and the end
abbrev pub AreFields : Kind → List Tree → List ℕ → Type 0
AreFields kind values bytes = AreOfForms (fields_of kind) values × (bytes ≡ members_text (fields_of kind) values ++ codes "}")

-- how many fields stand, where the bytes behind a kind aren't all of them; the first two are counted too
abbrev pub StopsAt : Kind → List ℕ → FieldsFault → Type 0
StopsAt kind bytes OtherSize = ⊥
StopsAt kind bytes (Ends n) = (further : ℕ) × (n ≡ 2 + further) × Begins further (fields_of kind) bytes × ¬ Begins (suc further) (fields_of kind) bytes
StopsAt kind bytes OutOfMemory = Unit {0}
