-- The members of an event seal as strings.
use Rattle.std.specs.Prelude.{ℕ, List, [], ◌∷◌, codes}
use Rattle.json_tree.specs.declared.tree.Member.{Member}
use Rattle.json_tree.specs.declared.tree.Tree.{Str}
use Rattle.journal.specs.Journal.Seals.{Named}

-- a member as its name and value
abbrev pub named_value : Member → Named
named_value m = record { name = m.name; value = m.value }

-- a member that is a string
abbrev pub string_member : List ℕ → List ℕ → Named
string_member name text = record { name = name; value = Str text }

-- the members of an event seal with these texts
abbrev pub seal_members : List ℕ → List ℕ → List ℕ → List Named
seal_members prefix sn said = string_member (codes "i") prefix ∷ string_member (codes "s") sn ∷ string_member (codes "d") said ∷ []
