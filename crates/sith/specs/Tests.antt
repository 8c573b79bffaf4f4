-- Which sets of indices meet a threshold (KERI, weighted thresholds).
use Rattle.std.specs.Prelude.{◌+◌, ◌&&◌, nat_le, ℕ, List, [], ◌∷◌, Bool, true, false}
use Rattle.sith.specs.declared.term.Term.{Term}
use Rattle.sith.specs.declared.threshold.Threshold.{Threshold}
use Rattle.sith.specs.declared.threshold.Threshold.TheVariants.{Count, Flat, Nested}
use Rattle.sith.specs.Clauses.{reach_whole}
use Rattle.sith.specs.Terms.{clause_size, terms_at}
use Rattle.sith.specs.Rules.{count_below}

-- in each clause the weights that are met sum to at least 1, the first index of the first clause being this
abbrev pub are_met : List (List Term) → ℕ → List ℕ → Bool
are_met [] start indices = true
are_met (clause ∷ clauses) start indices = reach_whole (terms_at clause start indices) && are_met clauses (start + clause_size clause) indices

-- The set of these indices that are in range meets the threshold: a number where it has so many members, a list where it
-- has a clause and all its clauses are met.
unfoldable pub satisfied : Threshold → ℕ → List ℕ → Bool
satisfied (Count n) keys indices = nat_le n (count_below keys indices)
satisfied (Flat terms) keys indices = are_met (terms ∷ []) 0 indices
satisfied (Nested []) keys indices = false
satisfied (Nested clauses) keys indices = are_met clauses 0 indices
