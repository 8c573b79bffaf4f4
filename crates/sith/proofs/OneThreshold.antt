-- A value spells one threshold at most.
use Rattle.std.proofs.Common.{◌≡◌, ◌≢◌, ℕ, List, [], ◌∷◌, map, refl, sym, ap, ◌∙◌, arith}
use Rattle.std.specs.List.{AllByRecursion, flat_map}
use Rattle.json_tree.specs.declared.tree.Tree.{Tree}
use Rattle.json_tree.specs.declared.tree.Tree.TheVariants.{Str, List as TreeList}
use Rattle.sith.specs.declared.weight.Weight.{Weight}
use Rattle.sith.specs.declared.weight.Weight.TheVariants.{Zero, One, Part}
use Rattle.sith.specs.declared.term.Term.{Term}
use Rattle.sith.specs.declared.term.Term.TheVariants.{Single, Group}
use Rattle.sith.specs.declared.threshold.Threshold.{Threshold}
use Rattle.sith.specs.declared.threshold.Threshold.TheVariants.{Count, Flat, Nested}
use Rattle.std.specs.Fmt.{decimal}
use Rattle.sith.specs.Weights.{IsWeight}
use Rattle.sith.specs.OwnValues.{IsTypedWeight, IsTypedTerm}
use Rattle.sith.specs.Terms.{weights_in}
use Rattle.sith.specs.Thresholds.{weight_text, weight_value, term_value, clause_value, clause_weights, Spells}
use Rattle.sith.proofs.Lists.{All-parts, all_in, map_injective}
use Rattle.sith.proofs.Slashes.{first_same, no_slash, one_part}
use Rattle.sith.proofs.Values.{list_injective, list_or_text, object_or_text, object_or_list, same_member}
use Rattle.sith.proofs.Values as values

-- a text is one text
pub text_injective : (x y : List ℕ) → Str x ≡ Str y → x ≡ y
text_injective = values.text_injective

no_part : (c n d : ℕ) → c ≢ 47 → c ∷ [] ≢ weight_text (Part n d)
no_part c n d other e = no_slash (c ∷ []) (decimal n) (decimal d) (other, tt) e

pub one_weight : (w v : Weight) → IsTypedWeight w → IsTypedWeight v → weight_text w ≡ weight_text v → w ≡ v
one_weight Zero Zero ours theirs e = refl
one_weight One One ours theirs e = refl
one_weight Zero One ours theirs e = absurd (omega (arith, first_same 48 49 [] [] e))
one_weight One Zero ours theirs e = absurd (omega (arith, first_same 49 48 [] [] e))
one_weight Zero (Part n d) ours theirs e = absurd (no_part 48 n d (omega arith) e)
one_weight One (Part n d) ours theirs e = absurd (no_part 49 n d (omega arith) e)
one_weight (Part n d) Zero ours theirs e = absurd (no_part 48 n d (omega arith) (sym e))
one_weight (Part n d) One ours theirs e = absurd (no_part 49 n d (omega arith) (sym e))
one_weight (Part n d) (Part m k) ours theirs e = let both = one_part n d m k ours theirs e in ap (λ x. Part x d) both.0 ∙ ap (λ x. Part m x) both.1

one_single : (w v : Weight) → IsTypedWeight w → IsTypedWeight v → weight_value w ≡ weight_value v → w ≡ v
one_single w v ours theirs e = one_weight w v ours theirs (values.text_injective (weight_text w) (weight_text v) e)

one_term : (t u : Term) → IsTypedTerm t → IsTypedTerm u → term_value t ≡ term_value u → t ≡ u
one_term (Single w) (Single v) ours theirs e = ap Single (one_single w v ours.0 theirs.0 e)
one_term (Single w) (Group v vs) ours theirs e = absurd (object_or_text _ (weight_text w) (sym e))
one_term (Group w ws) (Single v) ours theirs e = absurd (object_or_text _ (weight_text v) e)
one_term (Group w ws) (Group v vs) ours theirs e =
    let both = same_member (weight_text w) (weight_text v) (TreeList (map weight_value ws)) (TreeList (map weight_value vs)) e in
    let inner = map_injective weight_value IsTypedWeight one_single ws vs ours.1 theirs.1 (list_injective (map weight_value ws) (map weight_value vs) both.1) in
    ap (λ x. Group x ws) (one_weight w v ours.0 theirs.0 both.0) ∙ ap (λ l. Group v l) inner

one_clause : (ts us : List Term) → AllByRecursion IsTypedTerm ts → AllByRecursion IsTypedTerm us → clause_value ts ≡ clause_value us → ts ≡ us
one_clause ts us ours theirs e = map_injective term_value IsTypedTerm one_term ts us ours theirs (list_injective (map term_value ts) (map term_value us) e)

-- a weight that a text spells is held
held_weight : (w : Weight) → IsWeight w → IsTypedWeight w
held_weight Zero weight = tt
held_weight One weight = tt
held_weight (Part n d) weight = (omega (arith, weight), omega (arith, weight))

held_weights : (ws : List Weight) → AllByRecursion IsWeight ws → AllByRecursion IsTypedWeight ws
held_weights [] all = tt
held_weights (w ∷ ws) all = (held_weight w all.0, held_weights ws all.1)

pub held_clause : (terms : List Term) → AllByRecursion IsWeight (clause_weights terms) → AllByRecursion IsTypedTerm terms
held_clause terms all = all_in weights_in IsTypedWeight terms (held_weights (clause_weights terms) all)

pub held_clauses : (clauses : List (List Term)) → AllByRecursion IsWeight (flat_map clause_weights clauses) → AllByRecursion (AllByRecursion IsTypedTerm) clauses
held_clauses [] all = tt
held_clauses (c ∷ clauses) all = let parts = All-parts IsWeight (clause_weights c) (flat_map clause_weights clauses) all in (held_clause c parts.0, held_clauses clauses parts.1)

-- a term is no list
pub term_or_list : (term : Term) (trees : List Tree) → term_value term ≢ TreeList trees
term_or_list (Single weight) trees e = list_or_text trees (weight_text weight) (sym e)
term_or_list (Group weight inner) trees e = object_or_list _ trees e

pub flat_or_nested : (terms : List Term) (clauses : List (List Term)) → terms ≢ [] → map term_value terms ≡ map clause_value clauses → ⊥
flat_or_nested [] clauses some e = some refl
flat_or_nested (t ∷ terms) [] some e = cc e
flat_or_nested (t ∷ terms) (c ∷ clauses) some e = let first : term_value t ≡ clause_value c = cc e in term_or_list t (map term_value c) first

pub same_flat : (ts us : List Term) → AllByRecursion IsWeight (clause_weights ts) → AllByRecursion IsTypedTerm us → clause_value ts ≡ clause_value us → Flat ts ≡ Flat us
same_flat ts us ours theirs e = ap Flat (one_clause ts us (held_clause ts ours) theirs e)

pub same_nested : (cs ds : List (List Term)) → AllByRecursion IsWeight (flat_map clause_weights cs) → AllByRecursion (AllByRecursion IsTypedTerm) ds → TreeList (map clause_value cs) ≡ TreeList (map clause_value ds) → Nested cs ≡ Nested ds
same_nested cs ds ours theirs e =
    ap Nested (map_injective clause_value (AllByRecursion IsTypedTerm) one_clause cs ds (held_clauses cs ours) theirs (list_injective (map clause_value cs) (map clause_value ds) e))

pub one_threshold : (t u : Threshold) (tree : Tree) → Spells t tree → Spells u tree → t ≡ u
one_threshold (Count m) (Count n) tree ours theirs = let same = values.text_injective ours.0 theirs.0 (sym ours.1 ∙ theirs.1) in cc (same, ours.3, theirs.3)
one_threshold (Count m) (Flat vs) tree ours theirs = absurd (list_or_text (map term_value vs) ours.0 (sym theirs.2 ∙ ours.1))
one_threshold (Count m) (Nested ds) tree ours theirs = absurd (list_or_text (map clause_value ds) ours.0 (sym theirs.1 ∙ ours.1))
one_threshold (Flat ws) (Count n) tree ours theirs = absurd (list_or_text (map term_value ws) theirs.0 (sym ours.2 ∙ theirs.1))
one_threshold (Flat ws) (Flat vs) tree ours theirs = same_flat ws vs ours.1 (held_clause vs theirs.1) (sym ours.2 ∙ theirs.2)
one_threshold (Flat ws) (Nested ds) tree ours theirs = absurd (flat_or_nested ws ds ours.0 (list_injective (map term_value ws) (map clause_value ds) (sym ours.2 ∙ theirs.1)))
one_threshold (Nested cs) (Count n) tree ours theirs = absurd (list_or_text (map clause_value cs) theirs.0 (sym ours.1 ∙ theirs.1))
one_threshold (Nested cs) (Flat vs) tree ours theirs = absurd (flat_or_nested vs cs theirs.0 (list_injective (map term_value vs) (map clause_value cs) (sym theirs.2 ∙ ours.1)))
one_threshold (Nested cs) (Nested ds) tree ours theirs = same_nested cs ds ours.0 (held_clauses ds theirs.0) (sym ours.1 ∙ theirs.1)
