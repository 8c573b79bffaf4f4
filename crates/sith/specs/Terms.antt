-- The terms of a clause: single weights, and groups of weights.
use Rattle.std.specs.Prelude.{◌==◌, ℕ, List, [], ◌∷◌, Bool, length, map}
use Rattle.std.specs.List.{list_any, sum_by, flat_map, AllByRecursion}
use Rattle.sith.specs.declared.weight.Weight.{Weight}
use Rattle.sith.specs.declared.term.Term.{Term}
use Rattle.sith.specs.declared.term.Term.TheVariants.{Single, Group}
use Rattle.sith.specs.Clauses.{Share, reach_whole, shares_at, AreRead}

-- the term's weight in its clause, which is a group's outer one
abbrev pub outer_weight : Term → Weight
outer_weight (Single weight) = weight
outer_weight (Group weight inner) = weight

-- the list of a group's inner weights
abbrev pub inner_of : Term → List (List Weight)
inner_of (Single weight) = []
inner_of (Group weight inner) = inner ∷ []

-- the term's weights in the order of its text
abbrev pub weights_in : Term → List Weight
weights_in (Single weight) = weight ∷ []
weights_in (Group weight inner) = weight ∷ inner

-- how many indices the term takes: a single weight takes one, and each inner weight of a group
abbrev pub term_size : Term → ℕ
term_size (Single weight) = 1
term_size (Group weight inner) = length inner

-- how many indices a clause takes
abbrev pub clause_size : List Term → ℕ
clause_size terms = sum_by term_size terms

-- a weight of this index is met where the index is among these
abbrev pub is_given : Weight → ℕ → List ℕ → Bool
is_given weight start indices = list_any (λ i. i == start) indices

-- the inner weights of a group, each with whether its index is among these
abbrev pub inner_at : List Weight → ℕ → List ℕ → List Share
inner_at weights start indices = shares_at (λ w. w) (λ w. 1) is_given weights start indices

-- A term whose first index is this is met by these: a single weight where its index is among them, a group where its inner
-- weights that are met sum to at least 1.
abbrev pub is_term_met : Term → ℕ → List ℕ → Bool
is_term_met (Single weight) start indices = is_given weight start indices
is_term_met (Group weight inner) start indices = reach_whole (inner_at inner start indices)

-- the weights of a clause, each with whether its term is met
abbrev pub terms_at : List Term → ℕ → List ℕ → List Share
terms_at terms start indices = shares_at outer_weight term_size is_term_met terms start indices

-- the lists of weights of a clause that must sum to at least 1: its single and outer weights, and each group's inner ones
abbrev pub sums_of : List Term → List (List Weight)
sums_of terms = map outer_weight terms ∷ flat_map inner_of terms

-- the inner weights of the term are such as a reading lets pass
abbrev pub IsReadTerm : Term → Type 0
IsReadTerm term = AllByRecursion AreRead (inner_of term)
