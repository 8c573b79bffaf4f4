-- A tree by its lists of values and of members.
use Rattle.std.proofs.Common.{◌≡◌, ℕ, ◌+◌, max, List, [], ◌∷◌, ◌++◌, refl, sym, rules, ap, map, subst, ◌∙◌}
use Rattle.std.specs.Prelude.{Bool, IsTrue, ◌↔◌, Result, OnOk}
use Rattle.std.proofs.lemmas.Result.{on_ok_weaker}
use Rattle.std.specs.List.{AllByRecursion}
use Rattle.json_tree.specs.declared.tree.Tree.{Tree, Row_of-Tree, end_of-Tree, more_of-Tree, Row_of-Member, end_of-Member, more_of-Member, items-the_row-Tree, items-the_row-Member, the_lemmas}
use Rattle.json_tree.specs.declared.tree.Tree.TheVariants.{Null as TreeNull, Bool as TreeBool, Number as TreeNumber, Str as TreeStr, List as TreeList, Object as TreeObject, rolls-Null, rolls-Bool, rolls-Number, rolls-Str, rolls-List, rolls-Object}
use Rattle.json_tree.specs.declared.tree.Tree.TheViews.{roll-out-Tree, out-Tree, roll-Tree}
use Rattle.json_tree.specs.declared.tree.Tree.TheOpen as layer
use Rattle.json_tree.specs.declared.tree.Member.{Member}
use Rattle.json_tree.specs.Spelling.{spelling, values, members, separated, IsJson, ValuesAreJson, MembersAreJson, nesting, deepest_value, deepest_member, member_text, IsJsonMember}

values-row : {m : _} (row : Row_of-Tree m) → values row ≡ map spelling (items-the_row-Tree m row)
values-row end_of-Tree = refl
values-row (more_of-Tree value rest) = ap (λ texts. spelling value ∷ texts) (values-row rest)

members-row : {m : _} (row : Row_of-Member m) → members row ≡ map member_text (items-the_row-Member m row)
members-row end_of-Member = refl
members-row (more_of-Member name value rest) = ap (λ texts. member_text (record { name = name; value = value }) ∷ texts) (members-row rest)

json-row : {m : _} (row : Row_of-Tree m) → ValuesAreJson row ≡ AllByRecursion IsJson (items-the_row-Tree m row)
json-row end_of-Tree = refl
json-row (more_of-Tree value rest) = ap (λ X. IsJson value × X) (json-row rest)

json-members : {m : _} (row : Row_of-Member m) → MembersAreJson row ≡ AllByRecursion IsJsonMember (items-the_row-Member m row)
json-members end_of-Member = refl
json-members (more_of-Member name value rest) = ap (λ X. IsJsonMember (record { name = name; value = value }) × X) (json-members rest)

-- how deep the deepest of these nests
abbrev pub deepest : List Tree → ℕ
deepest [] = 0
deepest (tree ∷ trees) = max (nesting tree) (deepest trees)

abbrev pub deepest_in : List Member → ℕ
deepest_in [] = 0
deepest_in (member ∷ others) = max (nesting member.value) (deepest_in others)

deepest-row : {m : _} (row : Row_of-Tree m) → deepest_value row ≡ deepest (items-the_row-Tree m row)
deepest-row end_of-Tree = refl
deepest-row (more_of-Tree value rest) = ap (λ n. max (nesting value) n) (deepest-row rest)

deepest-members : {m : _} (row : Row_of-Member m) → deepest_member row ≡ deepest_in (items-the_row-Member m row)
deepest-members end_of-Member = refl
deepest-members (more_of-Member name value rest) = ap (λ n. max (nesting value) n) (deepest-members rest)

-- a list's text, and what it asks of its values
pub spelling-list : (xs : List Tree) → spelling (TreeList xs) ≡ 91 ∷ (separated (map spelling xs) ++ 93 ∷ [])
spelling-list xs = search (rules, values-row, the_lemmas)

pub spelling-object : (xs : List Member) → spelling (TreeObject xs) ≡ 123 ∷ (separated (map member_text xs) ++ 125 ∷ [])
spelling-object xs = search (rules, members-row, the_lemmas)

pub IsJson-list : (xs : List Tree) → IsJson (TreeList xs) ≡ AllByRecursion IsJson xs
IsJson-list xs = search (rules, json-row, the_lemmas)

pub IsJson-object : (xs : List Member) → IsJson (TreeObject xs) ≡ AllByRecursion IsJsonMember xs
IsJson-object xs = search (rules, json-members, the_lemmas)

pub IsJson-from_list : (xs : List Tree) → AllByRecursion IsJson xs → IsJson (TreeList xs)
IsJson-from_list xs each = subst (λ (X : Type 0). X) (sym (IsJson-list xs)) each

pub IsJson-to_list : (xs : List Tree) → IsJson (TreeList xs) → AllByRecursion IsJson xs
IsJson-to_list xs json = subst (λ (X : Type 0). X) (IsJson-list xs) json

pub IsJson-from_object : (xs : List Member) → AllByRecursion IsJsonMember xs → IsJson (TreeObject xs)
IsJson-from_object xs each = subst (λ (X : Type 0). X) (sym (IsJson-object xs)) each

pub IsJson-to_object : (xs : List Member) → IsJson (TreeObject xs) → AllByRecursion IsJsonMember xs
IsJson-to_object xs json = subst (λ (X : Type 0). X) (IsJson-object xs) json

pub nesting-list : (xs : List Tree) → nesting (TreeList xs) ≡ 1 + deepest xs
nesting-list xs = search (rules, deepest-row, the_lemmas)

pub nesting-object : (xs : List Member) → nesting (TreeObject xs) ≡ 1 + deepest_in xs
nesting-object xs = search (rules, deepest-members, the_lemmas)

-- the same of a tree that is such a list
pub list_test : (t : Tree) (xs : List Tree) (b : Bool) → t ≡ TreeList xs → IsTrue b ↔ AllByRecursion IsJson xs → IsTrue b ↔ IsJson t
list_test t xs b is each = (λ yes. subst IsJson (sym is) (IsJson-from_list xs (each.0 yes)), λ json. each.1 (IsJson-to_list xs (subst IsJson is json)))

pub object_test : (t : Tree) (xs : List Member) (b : Bool) → t ≡ TreeObject xs → IsTrue b ↔ AllByRecursion IsJsonMember xs → IsTrue b ↔ IsJson t
object_test t xs b is each = (λ yes. subst IsJson (sym is) (IsJson-from_object xs (each.0 yes)), λ json. each.1 (IsJson-to_object xs (subst IsJson is json)))

module _ {T E : Type 0} (r : Result T E) (t : Tree) (old new : List ℕ) where
  pub list_pushed : (xs : List Tree) → t ≡ TreeList xs → OnOk r (new ≡ old ++ 91 ∷ (separated (map spelling xs) ++ 93 ∷ [])) → OnOk r (new ≡ old ++ spelling t)
  list_pushed xs is pushed = on_ok_weaker r (λ e. e ∙ ap (λ l. old ++ l) (sym (ap spelling is ∙ spelling-list xs))) pushed

  pub object_pushed : (xs : List Member) → t ≡ TreeObject xs → OnOk r (new ≡ old ++ 123 ∷ (separated (map member_text xs) ++ 125 ∷ [])) → OnOk r (new ≡ old ++ spelling t)
  object_pushed xs is pushed = on_ok_weaker r (λ e. e ∙ ap (λ l. old ++ l) (sym (ap spelling is ∙ spelling-object xs))) pushed

-- a tree is one of its kinds
pub data Kind : Tree → Type 0 where
  null : Kind TreeNull
  bool : (value : Bool) → Kind (TreeBool value)
  number : (text : List ℕ) → Kind (TreeNumber text)
  str : (text : List ℕ) → Kind (TreeStr text)
  list : (trees : List Tree) → Kind (TreeList trees)
  object : (named : List Member) → Kind (TreeObject named)

rolled : (t : Tree) (l : _) → out-Tree t ≡ l → roll-Tree l ≡ t
rolled t l e = ap roll-Tree (sym e) ∙ roll-out-Tree t

pub kind : (t : Tree) → Kind t
kind t = elim (out-Tree t) as (λ l. out-Tree t ≡ l → Kind t) [
  | layer.Null ↦ λ e. subst Kind (sym rolls-Null ∙ rolled t _ e) null
  | layer.Bool value ↦ λ e. subst Kind (sym (rolls-Bool value) ∙ rolled t _ e) (bool value)
  | layer.Number text ↦ λ e. subst Kind (sym (rolls-Number text) ∙ rolled t _ e) (number text)
  | layer.Str text ↦ λ e. subst Kind (sym (rolls-Str text) ∙ rolled t _ e) (str text)
  | layer.List trees ↦ λ e. subst Kind (sym (rolls-List trees) ∙ rolled t _ e) (list trees)
  | layer.Object named ↦ λ e. subst Kind (sym (rolls-Object named) ∙ rolled t _ e) (object named)
] refl
