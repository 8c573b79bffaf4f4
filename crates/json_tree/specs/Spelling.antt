-- The text of a value, and how deep it nests. RFC 8259, without white space.
use Rattle.std.specs.Prelude.{◌≡◌, ℕ, ◌+◌, ◌≤◌, max, List, [], ◌∷◌, ◌++◌, if◌then◌else◌, codes, ⊤}
use Rattle.json_tree.specs.declared.tree.Tree.{Tree, Null, Bool, Number, Str, List', Object', Row_of-Tree, end_of-Tree, more_of-Tree, Row_of-Member, end_of-Member, more_of-Member}
use Rattle.json_tree.specs.declared.tree.Member.{Member}
use Rattle.json_tree.specs.Numbers.{IsNumber, IsNumberByte}
use Rattle.json_tree.specs.Strings.{IsString}

-- *( value-separator value )
abbrev pub after_commas : List (List ℕ) → List ℕ
after_commas [] = []
after_commas (text ∷ texts) = 44 ∷ (text ++ after_commas texts)

-- [ value *( value-separator value ) ]
abbrev pub separated : List (List ℕ) → List ℕ
separated [] = []
separated (text ∷ texts) = text ++ after_commas texts

-- Section 7: string = quotation-mark *char quotation-mark
abbrev pub quoted : List ℕ → List ℕ
quoted text = 34 ∷ (text ++ 34 ∷ [])

-- Section 3: value = false / null / true / object / array / number / string. Sections 4 and 5: objects and arrays.
abbrev mutual
  pub spelling : Tree → List ℕ
  spelling Null = codes "null"
  spelling (Bool value) = if value then codes "true" else codes "false"
  spelling (Number text) = text
  spelling (Str text) = quoted text
  spelling (List' shape row) = 91 ∷ (separated (values row) ++ 93 ∷ [])
  spelling (Object' shape row) = 123 ∷ (separated (members row) ++ 125 ∷ [])

  pub values : {m : _} → Row_of-Tree m → List (List ℕ)
  values end_of-Tree = []
  values (more_of-Tree value rest) = spelling value ∷ values rest

  -- member = string name-separator value
  pub members : {m : _} → Row_of-Member m → List (List ℕ)
  members end_of-Member = []
  members (more_of-Member name value rest) = (quoted name ++ 58 ∷ spelling value) ∷ members rest

-- each number, string and name that the value keeps is of the grammar
abbrev mutual
  pub IsJson : Tree → Type 0
  IsJson Null = ⊤
  IsJson (Bool value) = ⊤
  IsJson (Number text) = IsNumber text
  IsJson (Str text) = IsString text
  IsJson (List' shape row) = ValuesAreJson row
  IsJson (Object' shape row) = MembersAreJson row

  pub ValuesAreJson : {m : _} → Row_of-Tree m → Type 0
  ValuesAreJson end_of-Tree = ⊤
  ValuesAreJson (more_of-Tree value rest) = IsJson value × ValuesAreJson rest

  pub MembersAreJson : {m : _} → Row_of-Member m → Type 0
  MembersAreJson end_of-Member = ⊤
  MembersAreJson (more_of-Member name value rest) = (IsString name × IsJson value) × MembersAreJson rest

-- A scalar nests 0 deep, an empty list or object 1 deep, another list or object one more than its deepest member.
abbrev mutual
  pub nesting : Tree → ℕ
  nesting Null = 0
  nesting (Bool value) = 0
  nesting (Number text) = 0
  nesting (Str text) = 0
  nesting (List' shape row) = 1 + deepest_value row
  nesting (Object' shape row) = 1 + deepest_member row

  pub deepest_value : {m : _} → Row_of-Tree m → ℕ
  deepest_value end_of-Tree = 0
  deepest_value (more_of-Tree value rest) = max (nesting value) (deepest_value rest)

  pub deepest_member : {m : _} → Row_of-Member m → ℕ
  deepest_member end_of-Member = 0
  deepest_member (more_of-Member name value rest) = max (nesting value) (deepest_member rest)

-- a member's text, and what it asks of its parts
abbrev pub member_text : Member → List ℕ
member_text member = quoted member.name ++ 58 ∷ spelling member.value

abbrev pub IsJsonMember : Member → Type 0
IsJsonMember member = IsString member.name × IsJson member.value

-- the bytes spell the value
abbrev pub Spells : Tree → List ℕ → Type 0
Spells tree bytes = IsJson tree × (bytes ≡ spelling tree)

-- what is read is of the grammar and nests at most so deep
abbrev pub Fits : ℕ → Tree → Type 0
Fits depth tree = IsJson tree × (nesting tree ≤ depth)

abbrev pub FitsMember : ℕ → Member → Type 0
FitsMember depth member = IsString member.name × Fits depth member.value

-- these bytes can't belong to a number that stands before them
abbrev pub EndsNumber : List ℕ → Type 0
EndsNumber [] = ⊤
EndsNumber (b ∷ bs) = ¬ IsNumberByte b

-- these bytes can't belong to the value that stands before them
abbrev pub EndsBefore : Tree → List ℕ → Type 0
EndsBefore (Number text) rest = EndsNumber rest
EndsBefore _ rest = ⊤
