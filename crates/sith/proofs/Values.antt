-- JSON values that are texts, lists and objects of one member.
use Rattle.std.proofs.Common.{◌≡◌, ◌≢◌, ℕ, List, [], ◌∷◌, map, refl, inl, inr, sym, ap, subst, ◌∙◌}
use Rattle.std.specs.Prelude.{◌↔◌, Bool, true, IsTrue}
use Rattle.std.specs.List.{AllByRecursion, flat_map}
use Rattle.json_tree.specs.declared.tree.Tree.{Tree}
use Rattle.json_tree.specs.declared.tree.Member.{Member}
use Rattle.json_tree.specs.declared.tree.Tree.TheVariants.{Str, List as TreeList, Object as TreeObject, rolls-Str, rolls-List, rolls-Object}
use Rattle.json_tree.specs.declared.tree.Tree.TheViews.{out-Tree, out-roll-Tree}
use Rattle.json_tree.specs.declared.tree.Tree.TheOpen as layer
use Rattle.sith.specs.declared.sith_fault.SithFault.{SithFault}
use Rattle.sith.specs.declared.sith_fault.SithFault.TheVariants.{Form, BadWeight, OutOfRange, TooFine, Unreachable, OutOfMemory}
use Rattle.sith.specs.Thresholds.{Writes, Written, single, group, texts_value, written_value, written_clause, written_clauses, clause_texts, HasForm, IsFormFault, IsWeightFault}

opened_text : (text : List ℕ) → out-Tree (Str text) ≡ layer.Str text
opened_text text = ap out-Tree (sym (rolls-Str text)) ∙ out-roll-Tree (layer.Str text)

opened_list : (trees : List Tree) → out-Tree (TreeList trees) ≡ layer.List trees
opened_list trees = ap out-Tree (sym (rolls-List trees)) ∙ out-roll-Tree (layer.List trees)

opened_object : (members : List Member) → out-Tree (TreeObject members) ≡ layer.Object members
opened_object members = ap out-Tree (sym (rolls-Object members)) ∙ out-roll-Tree (layer.Object members)

-- a text is one text, a list one list of values, and an object one list of members
pub text_injective : (x y : List ℕ) → Str x ≡ Str y → x ≡ y
text_injective x y e = let same : layer.Str x ≡ layer.Str y = sym (opened_text x) ∙ ap out-Tree e ∙ opened_text y in cc same

pub list_injective : (xs ys : List Tree) → TreeList xs ≡ TreeList ys → xs ≡ ys
list_injective xs ys e = let same : layer.List xs ≡ layer.List ys = sym (opened_list xs) ∙ ap out-Tree e ∙ opened_list ys in cc same

object_injective : (x y : Member) → TreeObject (x ∷ []) ≡ TreeObject (y ∷ []) → x ≡ y
object_injective x y e = let same : layer.Object (x ∷ []) ≡ layer.Object (y ∷ []) = sym (opened_object (x ∷ [])) ∙ ap out-Tree e ∙ opened_object (y ∷ []) in cc same

-- a list is no text, and an object neither
pub list_or_text : (xs : List Tree) (text : List ℕ) → TreeList xs ≢ Str text
list_or_text xs text e = let same : layer.List xs ≡ layer.Str text = sym (opened_list xs) ∙ ap out-Tree e ∙ opened_text text in cc same

pub object_or_text : (members : List Member) (text : List ℕ) → TreeObject members ≢ Str text
object_or_text members text e = let same : layer.Object members ≡ layer.Str text = sym (opened_object members) ∙ ap out-Tree e ∙ opened_text text in cc same

pub object_or_list : (members : List Member) (xs : List Tree) → TreeObject members ≢ TreeList xs
object_or_list members xs e = let same : layer.Object members ≡ layer.List xs = sym (opened_object members) ∙ ap out-Tree e ∙ opened_list xs in cc same

-- objects of one member that are the same have one name and one value
pub same_member : (name other : List ℕ) (value there : Tree) → TreeObject (record { name = name; value = value } ∷ []) ≡ TreeObject (record { name = other; value = there } ∷ []) → (name ≡ other) × (value ≡ there)
same_member name other value there e =
    let same = object_injective (record { name = name; value = value }) (record { name = other; value = there }) e in
    (ap (λ (m : Member). m.name) same, ap (λ (m : Member). m.value) same)

module _ {A : Type 0} (value : A → Tree) where
  -- all values of a list are written where the list is
  pub all_written : (trees : List Tree) → AllByRecursion (Writes value) trees → (xs : List A) × (trees ≡ map value xs)
  all_written [] all = ([], refl)
  all_written (tree ∷ trees) all =
      let rest = all_written trees all.1 in
      (all.0.0 ∷ rest.0, ap (λ t. t ∷ trees) all.0.1 ∙ ap (λ l. value all.0.0 ∷ l) rest.1)

  pub written_all : (xs : List A) → AllByRecursion (Writes value) (map value xs)
  written_all [] = tt
  written_all (x ∷ xs) = ((x, refl), written_all xs)

  pub members_written : (tree : Tree) (trees : List Tree) → tree ≡ TreeList trees → Writes (λ (xs : List A). TreeList (map value xs)) tree → AllByRecursion (Writes value) trees
  members_written tree trees is written = subst (AllByRecursion (Writes value)) (sym (list_injective trees (map value written.0) (sym is ∙ written.1))) (written_all written.0)

  pub list_written : (tree : Tree) (trees : List Tree) (b : Bool) → tree ≡ TreeList trees → IsTrue b ↔ AllByRecursion (Writes value) trees → IsTrue b ↔ Writes (λ (xs : List A). TreeList (map value xs)) tree
  list_written tree trees b is tells = (
    λ t. (let rows = all_written trees (tells.0 t) in (rows.0, is ∙ ap TreeList rows.1)),
    λ written. tells.1 (members_written tree trees is written),
  )

-- a text is written as a term
pub text_written : (tree : Tree) (text : List ℕ) → tree ≡ Str text → IsTrue true ↔ Writes written_value tree
text_written tree text is = (λ t. (single text, is), λ written. refl)

inner_written : (member : Member) (w : Written) → TreeObject (member ∷ []) ≡ written_value w → Writes texts_value member.value
inner_written member (single text) e = absurd (object_or_text (member ∷ []) text e)
inner_written member (group outer inner) e = (inner, (same_member member.name outer member.value (texts_value inner) e).1)

pub member_written : (tree : Tree) (members : List Member) (member : Member) → tree ≡ TreeObject members → members ≡ member ∷ [] → Writes written_value tree → Writes texts_value member.value
member_written tree members member is one written = inner_written member written.0 (sym (ap TreeObject one) ∙ sym is ∙ written.1)

pub group_written : (tree : Tree) (members : List Member) (member : Member) (b : Bool) → tree ≡ TreeObject members → members ≡ member ∷ [] → IsTrue b ↔ Writes texts_value member.value → IsTrue b ↔ Writes written_value tree
group_written tree members member b is one tells = (
  λ t. (let inner = tells.0 t in (group member.name inner.0, is ∙ ap TreeObject one ∙ ap (λ v. TreeObject (record { name = member.name; value = v } ∷ [])) inner.1)),
  λ written. tells.1 (member_written tree members member is one written),
)

-- a list that has the form of a threshold is one of its two kinds
pub no_form : (trees : List Tree) → ¬ AllByRecursion (Writes written_value) trees → ¬ AllByRecursion (Writes written_clause) trees → HasForm (TreeList trees) → ⊥
no_form trees no_terms no_clauses (inl number) = list_or_text trees number.0 number.1
no_form trees no_terms no_clauses (inr (inl terms)) = no_terms (members_written written_value (TreeList trees) trees refl terms)
no_form trees no_terms no_clauses (inr (inr clauses)) = no_clauses (members_written written_clause (TreeList trees) trees refl clauses)

-- a fault in the weights is one of the form
pub terms_fault : (trees : List Tree) (fault : SithFault) → AllByRecursion (Writes written_value) trees → IsWeightFault written_clause clause_texts (TreeList trees) 0 fault → IsFormFault fault (TreeList trees)
terms_fault trees (BadWeight n) all bad = let rows = all_written written_value trees all in inl (rows.0, ap TreeList rows.1, bad rows.0 (ap TreeList rows.1))
terms_fault trees OutOfMemory all bad = tt
terms_fault trees Form all bad = absurd bad
terms_fault trees OutOfRange all bad = bad
terms_fault trees TooFine all bad = bad
terms_fault trees Unreachable all bad = bad

pub clauses_fault : (trees : List Tree) (fault : SithFault) → AllByRecursion (Writes written_clause) trees → IsWeightFault written_clauses (flat_map clause_texts) (TreeList trees) 0 fault → IsFormFault fault (TreeList trees)
clauses_fault trees (BadWeight n) all bad = let rows = all_written written_clause trees all in inr (rows.0, ap TreeList rows.1, bad rows.0 (ap TreeList rows.1))
clauses_fault trees OutOfMemory all bad = tt
clauses_fault trees Form all bad = absurd bad
clauses_fault trees OutOfRange all bad = bad
clauses_fault trees TooFine all bad = bad
clauses_fault trees Unreachable all bad = bad
