-- What the readers of values answer.
use Rattle.std.specs.Prelude.{◌≡◌, ◌≢◌, ◌≤◌, ℕ, List, ◌∷◌, ◌++◌, length, map, codes, ⊤, Result, Ok, Err}
use Rattle.std.specs.List.{AllByRecursion}
use Rattle.json_tree.specs.declared.tree.Tree.{Tree, Number}
use Rattle.json_tree.specs.declared.tree.Member.{Member}
use Rattle.json_tree.specs.declared.tree_fault.TreeFault.{TreeFault}
use Rattle.json_tree.specs.declared.tree_fault.TreeFault.TheVariants.{NotATree, OutOfMemory}
use Rattle.json_tree.specs.Numbers.{IsNumber}
use Rattle.json_tree.specs.Strings.{IsString}
use Rattle.json_tree.specs.Spelling.{spelling, separated, member_text, Fits, FitsMember}

-- a number that stands before the rest is the longest
abbrev pub IsLongest : Tree → List ℕ → Type 0
IsLongest (Number text) rest = (other more : List ℕ) → IsNumber other → text ++ rest ≡ other ++ more → length rest ≤ length more
IsLongest _ rest = ⊤

-- the value stands at the front, and the rest behind it
pub record ReadsValue (depth : ℕ) (bytes : List ℕ) (tree : Tree) (rest : List ℕ) : Type 0 where
  pub fits : Fits depth tree
  pub whole : bytes ≡ spelling tree ++ rest
  pub longest : IsLongest tree rest

-- no value that nests at most so deep stands at the front
abbrev pub NoValue : ℕ → List ℕ → Type 0
NoValue depth bytes = (tree : Tree) (rest : List ℕ) → Fits depth tree → bytes ≢ spelling tree ++ rest

-- none of the three words stands at the front
pub record NoWord (bytes : List ℕ) : Type 0 where
  pub null : (rest : List ℕ) → bytes ≢ codes "null" ++ rest
  pub true : (rest : List ℕ) → bytes ≢ codes "true" ++ rest
  pub false : (rest : List ℕ) → bytes ≢ codes "false" ++ rest

-- a member's name with the colon behind it stands at the front
pub record ReadsName (bytes name rest : List ℕ) : Type 0 where
  pub string : IsString name
  pub whole : bytes ≡ 34 ∷ (name ++ 34 ∷ (58 ∷ rest))

abbrev pub NoName : List ℕ → Type 0
NoName bytes = (name rest : List ℕ) → IsString name → bytes ≢ 34 ∷ (name ++ 34 ∷ (58 ∷ rest))

-- the member stands at the front, and the rest behind it
pub record ReadsMember (depth : ℕ) (bytes : List ℕ) (member : Member) (rest : List ℕ) : Type 0 where
  pub fits : FitsMember depth member
  pub whole : bytes ≡ member_text member ++ rest
  pub longest : IsLongest member.value rest

abbrev pub NoMember : ℕ → List ℕ → Type 0
NoMember depth bytes = (member : Member) (rest : List ℕ) → FitsMember depth member → bytes ≢ member_text member ++ rest

module _ {A : Type 0} (Good : A → Type 0) (text : A → List ℕ) (close : ℕ) where
  -- these items and the closing byte stand at the front, and the rest behind them
  pub record ReadsItems (bytes : List ℕ) (items : List A) (rest : List ℕ) : Type 0 where
    pub each : AllByRecursion Good items
    pub whole : bytes ≡ separated (map text items) ++ close ∷ rest

  -- no items with the closing byte behind them stand at the front
  abbrev pub NoItems : List ℕ → Type 0
  NoItems bytes = (items : List A) (rest : List ℕ) → AllByRecursion Good items → bytes ≢ separated (map text items) ++ close ∷ rest

-- The value and its length are what was read, unless memory ran out.
abbrev pub Gives : Result (Tree × ℕ) TreeFault → Tree × ℕ → Type 0
Gives (Ok read) expected = read ≡ expected
Gives (Err OutOfMemory) expected = ⊤
Gives (Err NotATree) expected = ⊥
