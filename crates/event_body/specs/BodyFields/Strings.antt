-- What a string holds.
use Rattle.std.specs.Prelude.{◌≡◌, ℕ, List}
use Rattle.std.specs.List.{AllByRecursion}
use Rattle.json_tree.specs.declared.tree.Tree.{Tree}
use Rattle.json_tree.specs.declared.tree.Tree.TheVariants.{Str, List as TreeList}

module _ {P : Type 0} (spelling : P → List ℕ) (IsValid : P → Type 0) where
  -- the value is a string of this primitive's text
  abbrev pub HoldsIt : P → Tree → Type 0
  HoldsIt primitive value = IsValid primitive × (value ≡ Str (spelling primitive))

  -- the value is a string of a primitive's text
  abbrev pub HoldsOne : Tree → Type 0
  HoldsOne value = (primitive : P) × HoldsIt primitive value

-- the value is a string
abbrev pub IsText : Tree → Type 0
IsText value = (text : List ℕ) × (value ≡ Str text)

-- the value is a list of such values
abbrev pub IsListOf : (Tree → Type 0) → Tree → Type 0
IsListOf Is value = (values : List Tree) × AllByRecursion Is values × (value ≡ TreeList values)
