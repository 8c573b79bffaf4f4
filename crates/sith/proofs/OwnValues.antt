-- A threshold's value is JSON, and spells that threshold alone.
use Rattle.std.proofs.Common.{◌≡◌, ◌≢◌, ◌⊎◌, inl, inr, ℕ, ◌^◌, ◌<◌, false, List, [], ◌∷◌, map, refl, sym, ap, arith}
use Rattle.std.specs.List.{AllByRecursion}
use Rattle.std.specs.Fmt.{digits}
use Rattle.lists.specs.KeriSpecs.Hex.{hex_value}
use Rattle.json_tree.specs.declared.tree.Tree.{Tree}
use Rattle.json_tree.specs.declared.tree.Tree.TheVariants.{Str, List as TreeList}
use Rattle.json_tree.specs.Spelling.{IsJson}
use Rattle.json_tree.proofs.Trees.{IsJson-from_list, IsJson-from_object}
use Rattle.sith.specs.declared.term.Term.{Term}
use Rattle.sith.specs.declared.term.Term.TheVariants.{Single, Group}
use Rattle.sith.specs.declared.threshold.Threshold.{Threshold}
use Rattle.sith.specs.declared.threshold.Threshold.TheVariants.{Count, Flat, Nested}
use Rattle.sith.specs.OwnValues.{IsTypedWeight, IsTypedTerm, IsTypedThreshold, HasOwnValue}
use Rattle.sith.specs.Rules.{IsReadFor}
use Rattle.sith.specs.Thresholds.{Spells, weight_value, term_value, clause_value, threshold_value}
use Rattle.sith.proofs.Numerals.{hex_is}
use Rattle.sith.proofs.OneThreshold.{flat_or_nested, same_flat, same_nested}
use Rattle.sith.proofs.Plain.{number_string, weight_string}
use Rattle.sith.proofs.Values.{text_injective, list_injective, list_or_text}

same_count : (m n : ℕ) → Spells (Count m) (threshold_value (Count n)) → n < 2 ^ 64 → Count m ≡ Count n
same_count m n spells few =
    let texts : hex_value spells.0 ≡ hex_value (digits 16 false n) = ap hex_value (text_injective spells.0 (digits 16 false n) (sym spells.1)) in
    ap Count (omega (arith, spells.3, texts, (hex_is n few).1, few))

nested_some : (cs : List (List Term)) (keys : ℕ) → IsReadFor (Nested cs) keys → cs ≢ []
nested_some cs keys read = read.0.0

-- clauses are no terms
nested_or_flat : (cs : List (List Term)) (us : List Term) → cs ≢ [] → map clause_value cs ≡ map term_value us → ⊥
nested_or_flat cs [] some e = some (nothing cs e)
  where
    nothing : (cs : List (List Term)) → map clause_value cs ≡ [] → cs ≡ []
    nothing [] e = refl
    nothing (c ∷ cs) e = cc e
nested_or_flat cs (u ∷ us) some e = flat_or_nested (u ∷ us) cs (λ none. cc none) (sym e)

-- a value that spells a threshold of so many keys, and is that of another, is the other's alone
same_threshold : (t u : Threshold) (keys : ℕ) → Spells t (threshold_value u) → IsReadFor t keys → IsTypedThreshold u → t ≡ u
same_threshold (Count m) (Count n) keys spells read held = same_count m n spells held
same_threshold (Count m) (Flat us) keys spells read held = absurd (list_or_text (map term_value us) spells.0 spells.1)
same_threshold (Count m) (Nested ds) keys spells read held = absurd (list_or_text (map clause_value ds) spells.0 spells.1)
same_threshold (Flat ts) (Count n) keys spells read held = absurd (list_or_text (map term_value ts) (digits 16 false n) (sym spells.2))
same_threshold (Flat ts) (Flat us) keys spells read held = same_flat ts us spells.1 held (sym spells.2)
same_threshold (Flat ts) (Nested ds) keys spells read held = absurd (flat_or_nested ts ds spells.0 (list_injective (map term_value ts) (map clause_value ds) (sym spells.2)))
same_threshold (Nested cs) (Count n) keys spells read held = absurd (list_or_text (map clause_value cs) (digits 16 false n) (sym spells.1))
same_threshold (Nested cs) (Flat us) keys spells read held = absurd (nested_or_flat cs us (nested_some cs keys read) (list_injective (map clause_value cs) (map term_value us) (sym spells.1)))
same_threshold (Nested cs) (Nested ds) keys spells read held = same_nested cs ds spells.0 held (sym spells.1)

mapped : {A : Type 0} (f : A → Tree) (Is : A → Type 0) → ((a : A) → Is a → IsJson (f a)) → (xs : List A) → AllByRecursion Is xs → AllByRecursion IsJson (map f xs)
mapped f Is json [] all = tt
mapped f Is json (x ∷ xs) all = (json x all.0, mapped f Is json xs all.1)

term_json : (term : Term) → IsTypedTerm term → IsJson (term_value term)
term_json (Single weight) held = weight_string weight held.0
term_json (Group weight inner) held =
    IsJson-from_object _ ((weight_string weight held.0, IsJson-from_list (map weight_value inner) (mapped weight_value IsTypedWeight weight_string inner held.1)), tt)

clause_json : (terms : List Term) → AllByRecursion IsTypedTerm terms → IsJson (clause_value terms)
clause_json terms held = IsJson-from_list (map term_value terms) (mapped term_value IsTypedTerm term_json terms held)

value_json : (threshold : Threshold) → IsTypedThreshold threshold → IsJson (threshold_value threshold)
value_json (Count n) few = number_string (digits 16 false n) (hex_is n few).0
value_json (Flat terms) held = clause_json terms held
value_json (Nested clauses) held = IsJson-from_list (map clause_value clauses) (mapped clause_value (AllByRecursion IsTypedTerm) clause_json clauses held)

string_or_list : (threshold : Threshold) → ((text : List ℕ) × (threshold_value threshold ≡ Str text)) ⊎ ((values : List Tree) × (threshold_value threshold ≡ TreeList values))
string_or_list (Count n) = inl (digits 16 false n, refl)
string_or_list (Flat terms) = inr (map term_value terms, refl)
string_or_list (Nested clauses) = inr (map clause_value clauses, refl)

pub own_value : (threshold : Threshold) → IsTypedThreshold threshold → HasOwnValue threshold
own_value threshold held = record {
  json = value_json threshold held;
  form = string_or_list threshold;
  one = λ other keys spells read. same_threshold other threshold keys spells read held;
}
