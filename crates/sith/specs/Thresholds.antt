-- What a threshold is, and how it is spelled as a JSON value (KERI, weighted thresholds).
use Rattle.std.specs.Prelude.{◌≡◌, ◌≢◌, ◌+◌, ◌-◌, ◌^◌, ◌⊎◌, min, ℕ, false, List, [], ◌∷◌, ◌++◌, ⊤, length, map, codes}
use Rattle.std.specs.List.{AllByRecursion, flat_map, sum_by}
use Rattle.std.specs.Fmt.{digits, decimal}
use Rattle.lists.specs.KeriSpecs.Hex.{IsHexNumber, hex_value}
use Rattle.json_tree.specs.declared.tree.Tree.{Tree}
use Rattle.json_tree.specs.declared.tree.Tree.TheVariants.{Str, List as TreeList, Object as TreeObject}
use Rattle.sith.specs.declared.weight.Weight.{Weight}
use Rattle.sith.specs.declared.weight.Weight.TheVariants.{Zero, One, Part}
use Rattle.sith.specs.declared.term.Term.{Term}
use Rattle.sith.specs.declared.term.Term.TheVariants.{Single, Group}
use Rattle.sith.specs.declared.threshold.Threshold.{Threshold}
use Rattle.sith.specs.declared.threshold.Threshold.TheVariants.{Count, Flat, Nested}
use Rattle.sith.specs.declared.sith_fault.SithFault.{SithFault}
use Rattle.sith.specs.declared.sith_fault.SithFault.TheVariants.{Form, BadWeight, OutOfMemory}
use Rattle.sith.specs.Weights.{IsWeight}
use Rattle.sith.specs.Terms.{weights_in, clause_size}

-- nothing, the whole, or so many parts of it, in decimal without leading zeros
abbrev pub weight_text : Weight → List ℕ
weight_text Zero = codes "0"
weight_text One = codes "1"
weight_text (Part n d) = decimal n ++ 47 ∷ decimal d

abbrev pub weight_value : Weight → Tree
weight_value weight = Str (weight_text weight)

-- a group is an object with one member: its outer weight, and the list of its inner ones
abbrev pub term_value : Term → Tree
term_value (Single weight) = weight_value weight
term_value (Group weight inner) = TreeObject (record { name = weight_text weight; value = TreeList (map weight_value inner) } ∷ [])

abbrev pub clause_value : List Term → Tree
clause_value terms = TreeList (map term_value terms)

-- the value that a threshold is written as: a number in lower-case hexadecimal digits without leading zeros
abbrev pub threshold_value : Threshold → Tree
threshold_value (Count n) = Str (digits 16 false n)
threshold_value (Flat terms) = clause_value terms
threshold_value (Nested clauses) = TreeList (map clause_value clauses)

-- the weights of a clause in the order of its text
abbrev pub clause_weights : List Term → List Weight
clause_weights terms = flat_map weights_in terms

-- The value spells the threshold. The list `[]` has no clause. A number that is greater than 2^64 - 1 stands as that.
abbrev pub Spells : Threshold → Tree → Type 0
Spells (Count n) tree = (digits : List ℕ) × (tree ≡ Str digits) × IsHexNumber digits × (n ≡ min (hex_value digits) (2 ^ 64 - 1))
Spells (Flat terms) tree = (terms ≢ []) × AllByRecursion IsWeight (clause_weights terms) × (tree ≡ threshold_value (Flat terms))
Spells (Nested clauses) tree = AllByRecursion IsWeight (flat_map clause_weights clauses) × (tree ≡ threshold_value (Nested clauses))

-- what is written in the place of a term, with texts in the places of its weights
pub data Written : Type 0 where
  single : List ℕ → Written
  group : List ℕ → List (List ℕ) → Written

abbrev pub texts_value : List (List ℕ) → Tree
texts_value texts = TreeList (map (λ text. Str text) texts)

abbrev pub written_value : Written → Tree
written_value (single text) = Str text
written_value (group outer inner) = TreeObject (record { name = outer; value = texts_value inner } ∷ [])

abbrev pub written_clause : List Written → Tree
written_clause terms = TreeList (map written_value terms)

abbrev pub written_clauses : List (List Written) → Tree
written_clauses clauses = TreeList (map written_clause clauses)

-- the texts in the places of weights, in their order: a group's outer one before its inner ones
abbrev pub texts_of : Written → List (List ℕ)
texts_of (single text) = text ∷ []
texts_of (group outer inner) = outer ∷ inner

abbrev pub clause_texts : List Written → List (List ℕ)
clause_texts terms = flat_map texts_of terms

-- something is written as the value
abbrev pub Writes : {A : Type 0} → (A → Tree) → Tree → Type 0
Writes {A} value tree = (a : A) × (tree ≡ value a)

-- a hexadecimal text
abbrev pub IsNumberText : Tree → Type 0
IsNumberText tree = (digits : List ℕ) × (tree ≡ Str digits) × IsHexNumber digits

-- a hexadecimal text, a list whose members are texts and groups, or a list of such lists
abbrev pub HasForm : Tree → Type 0
HasForm tree = IsNumberText tree ⊎ (Writes written_clause tree ⊎ Writes written_clauses tree)

-- The first of these texts that spells no weight has this number, where the first text has the number `start`. 65,535
-- stands for every greater number too.
pub record IsFirstBad (start n : ℕ) (texts : List (List ℕ)) : Type 0 where
  pub before : List Weight
  pub bad : List ℕ
  pub behind : List (List ℕ)
  pub are : texts ≡ map weight_text before ++ bad ∷ behind
  pub weights : AllByRecursion IsWeight before
  pub none : (weight : Weight) → IsWeight weight → bad ≢ weight_text weight
  pub number : n ≡ min (start + length before) 65535

-- the number of the value's first weight that is none
abbrev pub IsBadWeight : ℕ → Tree → Type 0
IsBadWeight n tree = ((terms : List Written) × (tree ≡ written_clause terms) × IsFirstBad 0 n (clause_texts terms))
    ⊎ ((clauses : List (List Written)) × (tree ≡ written_clauses clauses) × IsFirstBad 0 n (flat_map clause_texts clauses))

-- the cause of a fault in the form
abbrev pub IsFormFault : SithFault → Tree → Type 0
IsFormFault Form tree = ¬ HasForm tree
IsFormFault (BadWeight n) tree = IsBadWeight n tree
IsFormFault OutOfMemory tree = ⊤
IsFormFault _ tree = ⊥

-- the causes of a fault in weights that are read one by one, whose texts this value has, the first of this number
abbrev pub IsWeightFault : {A : Type 0} → (A → Tree) → (A → List (List ℕ)) → Tree → ℕ → SithFault → Type 0
IsWeightFault {A} value texts tree start (BadWeight n) = (a : A) → tree ≡ value a → IsFirstBad start n (texts a)
IsWeightFault value texts tree start OutOfMemory = ⊤
IsWeightFault value texts tree start _ = ⊥

-- how many indices these clauses take
abbrev pub weight_count : List (List Term) → ℕ
weight_count clauses = sum_by clause_size clauses
