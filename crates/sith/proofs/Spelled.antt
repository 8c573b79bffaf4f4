-- Where a value spells a threshold that is read for so many keys, no fault has a cause.
use Rattle.std.proofs.Common.{◌≡◌, ◌≢◌, ℕ, List, [], ◌∷◌, ◌++◌, map, refl, inl, inr, sym, ap, ◌∙◌, Result, Ok, Err, IfOk, IfErr}
use Rattle.std.specs.Prelude.{◌⊎◌}
use Rattle.std.specs.List.{AllByRecursion, flat_map}
use Rattle.std.specs.Result.{IsErr}
use Rattle.json_tree.specs.declared.tree.Tree.{Tree}
use Rattle.json_tree.specs.declared.tree.Tree.TheVariants.{Str, List as TreeList, Object as TreeObject}
use Rattle.sith.specs.declared.weight.Weight.{Weight}
use Rattle.sith.specs.declared.term.Term.{Term}
use Rattle.sith.specs.declared.term.Term.TheVariants.{Single, Group}
use Rattle.sith.specs.declared.threshold.Threshold.{Threshold}
use Rattle.sith.specs.declared.threshold.Threshold.TheVariants.{Count, Flat, Nested}
use Rattle.sith.specs.declared.sith_fault.SithFault.{SithFault}
use Rattle.sith.specs.declared.sith_fault.SithFault.TheVariants.{Form, BadWeight, OutOfRange, TooFine, Unreachable, OutOfMemory}
use Rattle.sith.specs.Weights.{IsWeight}
use Rattle.sith.specs.Clauses.{IsTooFine, IsReachable, AreRead}
use Rattle.sith.specs.Thresholds.{weight_text, weight_value, term_value, clause_value, clause_weights, Written, single, group, written_value, written_clause, clause_texts, HasForm, Spells, IsFirstBad, IsBadWeight, IsFormFault}
use Rattle.sith.specs.Rules.{AnyByRecursion, all_sums, IsReadFor, IsRuleFault}
use Rattle.sith.proofs.FirstBad.{texts_are, clause_same}
use Rattle.sith.proofs.OneThreshold.{one_threshold, term_or_list}
use Rattle.sith.proofs.Values.{list_injective, list_or_text, object_or_list}

module _ {A W : Type 0} (f : A → Tree) (value : W → Tree) (written : A → W) (is : (a : A) → f a ≡ value (written a)) where
  map_written : (xs : List A) → map f xs ≡ map value (map written xs)
  map_written [] = refl
  map_written (x ∷ xs) = ap (λ t. t ∷ map f xs) (is x) ∙ ap (λ l. value (written x) ∷ l) (map_written xs)

-- what is written of a term
written_of : Term → Written
written_of (Single weight) = single (weight_text weight)
written_of (Group weight inner) = group (weight_text weight) (map weight_text inner)

term_written : (term : Term) → term_value term ≡ written_value (written_of term)
unfolding written_of
term_written (Single weight) = refl
term_written (Group weight inner) = ap (λ l. TreeObject (record { name = weight_text weight; value = TreeList l } ∷ [])) (map_written weight_value (λ text. Str text) weight_text (λ w. refl) inner)

clause_written : (terms : List Term) → clause_value terms ≡ written_clause (map written_of terms)
clause_written terms = ap TreeList (map_written term_value written_value written_of term_written terms)

has_form : (threshold : Threshold) (tree : Tree) → Spells threshold tree → HasForm tree
has_form (Count n) tree spells = inl (spells.0, spells.1, spells.2)
has_form (Flat terms) tree spells = inr (inl (map written_of terms, spells.2 ∙ clause_written terms))
has_form (Nested clauses) tree spells = inr (inr (map (λ terms. map written_of terms) clauses, spells.1 ∙ ap TreeList (map_written clause_value written_clause (λ terms. map written_of terms) clause_written clauses)))

-- texts of weights have none that is bad
spelled_text : (before weights : List Weight) (bad : List ℕ) (behind : List (List ℕ)) → AllByRecursion IsWeight weights → map weight_text weights ≡ map weight_text before ++ bad ∷ behind → (w : Weight) × IsWeight w × (bad ≡ weight_text w)
spelled_text [] [] bad behind all e = cc e
spelled_text [] (w ∷ weights) bad behind all e = (w, all.0, cc e)
spelled_text (b ∷ before) [] bad behind all e = cc e
spelled_text (b ∷ before) (w ∷ weights) bad behind all e =
    let rest : map weight_text weights ≡ map weight_text before ++ bad ∷ behind = cc e in
    spelled_text before weights bad behind all.1 rest

no_bad : (n : ℕ) (weights : List Weight) (texts : List (List ℕ)) → AllByRecursion IsWeight weights → texts ≡ map weight_text weights → IsFirstBad 0 n texts → ⊥
no_bad n weights texts all are b = let found = spelled_text b.before weights b.bad b.behind all (sym are ∙ b.are) in b.none found.0 found.1 found.2

-- a list of terms is no list of clauses
no_clauses : (terms : List Term) (clauses : List (List Written)) → terms ≢ [] → map term_value terms ≡ map written_clause clauses → ⊥
no_clauses [] clauses some e = some refl
no_clauses (t ∷ terms) [] some e = cc e
no_clauses (t ∷ terms) (c ∷ clauses) some e = let first : term_value t ≡ written_clause c = cc e in term_or_list t (map written_value c) first

list_or_written : (trees : List Tree) (w : Written) → TreeList trees ≢ written_value w
list_or_written trees (single text) e = list_or_text trees text e
list_or_written trees (group outer inner) e = object_or_list _ trees (sym e)

no_terms : (n : ℕ) (clauses : List (List Term)) (ws : List Written) → map clause_value clauses ≡ map written_value ws → IsFirstBad 0 n (clause_texts ws) → ⊥
no_terms n [] [] e bad = no_bad n [] [] tt refl bad
no_terms n [] (w ∷ ws) e bad = cc e
no_terms n (c ∷ clauses) [] e bad = cc e
no_terms n (c ∷ clauses) (w ∷ ws) e bad = let first : clause_value c ≡ written_value w = cc e in list_or_written (map term_value c) w first

module _ (n : ℕ) (tree : Tree) where
  no_bad_weight : (threshold : Threshold) → Spells threshold tree → IsBadWeight n tree → ⊥
  no_bad_weight (Count m) spells (inl (ws, is, bad)) = list_or_text (map written_value ws) spells.0 (sym is ∙ spells.1)
  no_bad_weight (Count m) spells (inr (cs, is, bad)) = list_or_text (map written_clause cs) spells.0 (sym is ∙ spells.1)
  no_bad_weight (Flat terms) spells (inl (ws, is, bad)) = no_bad n (clause_weights terms) (clause_texts ws) spells.1 (clause_same terms ws (sym spells.2 ∙ is)) bad
  no_bad_weight (Flat terms) spells (inr (cs, is, bad)) = no_clauses terms cs spells.0 (list_injective (map term_value terms) (map written_clause cs) (sym spells.2 ∙ is))
  no_bad_weight (Nested clauses) spells (inl (ws, is, bad)) = no_terms n clauses ws (list_injective (map clause_value clauses) (map written_value ws) (sym spells.1 ∙ is)) bad
  no_bad_weight (Nested clauses) spells (inr (cs, is, bad)) =
      no_bad n (flat_map clause_weights clauses) (flat_map clause_texts cs) spells.0
      (texts_are clause_value written_clause clause_texts clause_weights clause_same clauses cs (list_injective (map clause_value clauses) (map written_clause cs) (sym spells.1 ∙ is))) bad

-- the form of a value that spells a threshold has no fault but want of memory
pub form_is_good : (threshold : Threshold) (tree : Tree) (fault : SithFault) → Spells threshold tree → IsFormFault fault tree → fault ≡ OutOfMemory
form_is_good threshold tree Form spells bad = absurd (bad (has_form threshold tree spells))
form_is_good threshold tree (BadWeight n) spells bad = absurd (no_bad_weight n tree threshold spells bad)
form_is_good threshold tree OutOfMemory spells bad = refl
form_is_good threshold tree OutOfRange spells bad = absurd bad
form_is_good threshold tree TooFine spells bad = absurd bad
form_is_good threshold tree Unreachable spells bad = absurd bad

module _ (Bad : List Weight → Type 0) (good : (weights : List Weight) → AreRead weights → Bad weights → ⊥) where
  no_sum : (sums : List (List Weight)) → AllByRecursion AreRead sums → AnyByRecursion Bad sums → ⊥
  no_sum [] all bad = bad
  no_sum (s ∷ sums) all (inl here) = good s all.0 here
  no_sum (s ∷ sums) all (inr there) = no_sum sums all.1 there

not_too_fine : (weights : List Weight) → AreRead weights → IsTooFine weights → ⊥
not_too_fine weights good bad = bad good.1.0 good.1.1 good.1.2 good.1.3

not_unreachable : (weights : List Weight) → AreRead weights → ¬ IsReachable weights → ⊥
not_unreachable weights good bad = bad good.2

-- a threshold that is read for so many keys breaks no rule
pub no_rule : (threshold : Threshold) (keys : ℕ) (fault : SithFault) → IsReadFor threshold keys → IsRuleFault fault threshold keys → ⊥
no_rule threshold keys OutOfRange good bad = bad good.0
no_rule threshold keys TooFine good bad = no_sum IsTooFine not_too_fine (all_sums threshold) good.1 bad.1
no_rule threshold keys Unreachable good bad = no_sum (λ weights. ¬ IsReachable weights) not_unreachable (all_sums threshold) good.1 bad.1.1
no_rule threshold keys Form good bad = bad.1
no_rule threshold keys (BadWeight n) good bad = bad.1
no_rule threshold keys OutOfMemory good bad = bad.1

pub memory_ran_out : {T : Type 0} (r : Result T SithFault) → IsErr r → IfErr r (λ fault. fault ≡ OutOfMemory) → r ≡ Err OutOfMemory
memory_ran_out (Ok value) fails is = cc fails
memory_ran_out (Err fault) fails is = ap Err is

-- the reader of the form reads what is spelled
pub form_is_read : (r : Result Threshold SithFault) (tree : Tree) → IfOk r (λ found. Spells found tree) → IfErr r (λ fault. IsFormFault fault tree) → (threshold : Threshold) → Spells threshold tree → (r ≡ Ok threshold) ⊎ (r ≡ Err OutOfMemory)
form_is_read (Ok found) tree spelled fault threshold spells = inl (ap Ok (one_threshold found threshold tree spelled spells))
form_is_read (Err fault) tree spelled bad threshold spells = inr (ap Err (form_is_good threshold tree fault spells bad))
