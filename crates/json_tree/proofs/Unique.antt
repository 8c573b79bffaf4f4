-- One value stands at the front of some bytes.
use Rattle.std.proofs.Common.{◌≡◌, ◌≢◌, ℕ, zero, suc, ◌+◌, ◌≤◌, ◌⊎◌, inl, inr, List, [], ◌∷◌, ◌++◌, length, true, false, refl, sym, ap, map, subst, ◌∙◌, append_assoc, append-nil, arith, get_or}
use Rattle.std.specs.Prelude.{⊤, ◌==◌, nat_lt, if◌then◌else◌}
use Rattle.std.specs.List.{AllByRecursion}
use Rattle.std.proofs.lemmas.Bool.Decides.{nat_tests}
use Rattle.std.proofs.lemmas.Bool.{cases_lt}
use Rattle.std.proofs.lemmas.List.{append_cancel_left}
use Rattle.json_tree.specs.declared.tree.Tree.{Tree}
use Rattle.json_tree.specs.declared.tree.Tree.TheVariants.{Null as TreeNull, Bool as TreeBool, Number as TreeNumber, Str as TreeStr, List as TreeList, Object as TreeObject}
use Rattle.json_tree.specs.declared.tree.Member.{Member}
use Rattle.json_tree.specs.Numbers.{IsDigit, IsNumber, IsNumberByte}
use Rattle.json_tree.specs.Spelling.{spelling, separated, IsJson, nesting, member_text, IsJsonMember, Fits, FitsMember, EndsNumber, EndsBefore}
use Rattle.json_tree.specs.Reading.{IsLongest}
use Rattle.json_tree.proofs.Takes.{align, first_same}
use Rattle.json_tree.proofs.NumberParts.{number_first, number_bytes}
use Rattle.json_tree.proofs.StringParts.{text_unique, none_at_quote}
use Rattle.json_tree.proofs.Items.{EndsItem, IsOne, items_unique}
use Rattle.json_tree.proofs.Trees.{Kind, null, bool, number, str, list, object, kind, spelling-list, spelling-object, IsJson-to_list, IsJson-to_object, nesting-list, nesting-object, deepest, deepest_in}

-- what kind of value begins with a byte
abbrev pub sort_of : ℕ → ℕ
sort_of b = if b == 110 then 0 else if b == 116 then 1 else if b == 102 then 1 else if b == 34 then 2 else if b == 91 then 3 else if b == 123 then 4 else if nat_lt b 58 then 5 else 6

abbrev pub sort : {t : Tree} → Kind t → ℕ
sort null = 0
sort (bool value) = 1
sort (str text) = 2
sort (list trees) = 3
sort (object named) = 4
sort (number text) = 5

pub first : List ℕ → ℕ
first bytes = get_or bytes 0 0

sort_of-number : (b : ℕ) → (b ≡ 45) ⊎ IsDigit b → sort_of b ≡ 5
sort_of-number b (inl minus) = grind (arith, nat_tests)
sort_of-number b (inr digit) = grind (arith, nat_tests)

pub sort_at : {t : Tree} (k : Kind t) (x : List ℕ) → IsJson t → sort_of (first (spelling t ++ x)) ≡ sort k
unfolding first
sort_at null x json = refl
sort_at (bool true) x json = refl
sort_at (bool false) x json = refl
sort_at (str text) x json = refl
sort_at (list trees) x json = ap (λ l. sort_of (first (l ++ x))) (spelling-list trees)
sort_at (object named) x json = ap (λ l. sort_of (first (l ++ x))) (spelling-object named)
sort_at (number text) x json =
    let begins = number_first text json in
    ap (λ l. sort_of (first (l ++ x))) begins.3 ∙ sort_of-number begins.0 begins.2

pub wrong_sort : {t : Tree} (k : Kind t) (b : ℕ) (bytes rest : List ℕ) → IsJson t → b ∷ bytes ≡ spelling t ++ rest → sort_of b ≡ sort k
unfolding first
wrong_sort k b bytes rest json e = ap (λ l. sort_of (first l)) e ∙ sort_at k rest json

-- two values at the front of the same bytes are of one kind
pub same_sort : {t u : Tree} (k : Kind t) (j : Kind u) (x y : List ℕ) → IsJson t → IsJson u → spelling t ++ x ≡ spelling u ++ y → sort k ≡ sort j
same_sort k j x y t_json u_json e = sym (sort_at k x t_json) ∙ ap (λ l. sort_of (first l)) e ∙ sort_at j y u_json

-- no comma and no closing bracket belongs to a number
not_number_byte : (b : ℕ) → (b ≡ 44) ⊎ (58 ≤ b) → b ≢ 69 → b ≢ 101 → IsNumberByte b → ⊥
not_number_byte b out no_E no_e (inl digit) = elim out [ inl comma ↦ omega (arith, digit, comma) | inr above ↦ omega (arith, digit, above) ]
not_number_byte b out no_E no_e (inr (inl is)) = elim out [ inl comma ↦ omega (arith, is, comma) | inr above ↦ omega (arith, is, above) ]
not_number_byte b out no_E no_e (inr (inr (inl is))) = elim out [ inl comma ↦ omega (arith, is, comma) | inr above ↦ omega (arith, is, above) ]
not_number_byte b out no_E no_e (inr (inr (inr (inl is)))) = elim out [ inl comma ↦ omega (arith, is, comma) | inr above ↦ omega (arith, is, above) ]
not_number_byte b out no_E no_e (inr (inr (inr (inr (inl is))))) = no_E is
not_number_byte b out no_E no_e (inr (inr (inr (inr (inr is))))) = no_e is

-- a byte that closes a list or an object
abbrev pub IsClose : ℕ → Type 0
IsClose close = (102 ≤ close) ⊎ (close ≡ 93)

pub ends_item : (close : ℕ) → IsClose close → (x : List ℕ) → EndsItem close x → EndsNumber x
ends_item close is [] ends = absurd ends
ends_item close is (b ∷ x) (inl comma) = not_number_byte b (inl comma) (omega (arith, comma)) (omega (arith, comma))
ends_item close (inl far) (b ∷ x) (inr closing) = not_number_byte b (inr (omega (arith, closing, far))) (omega (arith, closing, far)) (omega (arith, closing, far))
ends_item close (inr bracket) (b ∷ x) (inr closing) = not_number_byte b (inr (omega (arith, closing, bracket))) (omega (arith, closing, bracket)) (omega (arith, closing, bracket))

ends_before_kind : {t : Tree} (k : Kind t) (x : List ℕ) → EndsNumber x → EndsBefore t x
ends_before_kind null x ends = tt
ends_before_kind (bool value) x ends = tt
ends_before_kind (number text) x ends = ends
ends_before_kind (str text) x ends = tt
ends_before_kind (list trees) x ends = tt
ends_before_kind (object named) x ends = tt

pub ends_before : (t : Tree) (x : List ℕ) → EndsNumber x → EndsBefore t x
ends_before t x ends = ends_before_kind (kind t) x ends

no_more : (n m x y w : List ℕ) → IsNumber m → EndsNumber x → m ≡ n ++ w → x ≡ w ++ y → (n ≡ m) × (x ≡ y)
no_more n m x y [] is ends longer e = (sym (append-nil n) ∙ sym longer, e)
no_more n m x y (c ∷ w) is ends longer e = absurd (subst EndsNumber e ends (number_bytes m is n w c longer))

number_unique : (n m x y : List ℕ) → IsNumber n → IsNumber m → EndsNumber x → IsLongest (TreeNumber m) y → n ++ x ≡ m ++ y → (n ≡ m) × (x ≡ y)
number_unique n m x y is_n is_m ends longest e =
    let a = align n m x y e (longest n x is_n (sym e)) in
    no_more n m x y a.0 is_m ends a.1 a.2

longest_of : (n m x y : List ℕ) → IsNumber m → EndsNumber x → n ++ x ≡ m ++ y → length x ≤ length y
longest_of n m x y is ends e = elim (cases_lt (length y) (length x)) [
  | inl shorter ↦ (let a = align n m x y e (omega arith) in omega (arith, ap length (no_more n m x y a.0 is ends a.1 a.2).1))
  | inr enough ↦ enough
]

longest_where_ends : {t : Tree} (k : Kind t) (x : List ℕ) → EndsBefore t x → IsLongest t x
longest_where_ends null x ends = tt
longest_where_ends (bool value) x ends = tt
longest_where_ends (number text) x ends = λ other more is e. longest_of text other x more is ends e
longest_where_ends (str text) x ends = tt
longest_where_ends (list trees) x ends = tt
longest_where_ends (object named) x ends = tt

pub ends_longest : (t : Tree) (x : List ℕ) → EndsNumber x → IsLongest t x
ends_longest t x ends = longest_where_ends (kind t) x (ends_before t x ends)

-- the values of a list, and those of an object's members, fit one level less
pub all_fit : (n : ℕ) (trees : List Tree) → AllByRecursion IsJson trees → deepest trees ≤ n → AllByRecursion (Fits n) trees
all_fit n [] json deep = tt
all_fit n (t ∷ trees) json deep = ((json.0, omega (arith, deep)), all_fit n trees json.1 (omega (arith, deep)))

pub all_members_fit : (n : ℕ) (named : List Member) → AllByRecursion IsJsonMember named → deepest_in named ≤ n → AllByRecursion (FitsMember n) named
all_members_fit n [] json deep = tt
all_members_fit n (m ∷ named) json deep = ((json.0.0, (json.0.1, omega (arith, deep))), all_members_fit n named json.1 (omega (arith, deep)))

pub list_fits : (n : ℕ) (trees : List Tree) → Fits (n + 1) (TreeList trees) → AllByRecursion (Fits n) trees
list_fits n trees fits = all_fit n trees (IsJson-to_list trees fits.0) (omega (arith, fits.1, nesting-list trees))

pub object_fits : (n : ℕ) (named : List Member) → Fits (n + 1) (TreeObject named) → AllByRecursion (FitsMember n) named
object_fits n named fits = all_members_fit n named (IsJson-to_object named fits.0) (omega (arith, fits.1, nesting-object named))

-- one value stands at the front in one way
abbrev pub UniqueAt : ℕ → Type 0
UniqueAt n = (t u : Tree) (x y : List ℕ) → Fits n t → Fits n u → EndsBefore t x → IsLongest u y → spelling t ++ x ≡ spelling u ++ y → (t ≡ u) × (x ≡ y)

pub one_value : (n : ℕ) → UniqueAt n → (close : ℕ) → IsClose close → IsOne (Fits n) spelling close
one_value n unique close is a b x y good other ends_x ends_y e =
    unique a b x y good other (ends_before a x (ends_item close is x ends_x)) (ends_longest b y (ends_item close is y ends_y)) e

pub member_whole : (m : Member) (x : List ℕ) → member_text m ++ x ≡ 34 ∷ (m.name ++ (34 ∷ (58 ∷ (spelling m.value ++ x))))
member_whole m x = simp append_assoc

behind_34 : (x y : List ℕ) → 34 ∷ x ≡ 34 ∷ y → x ≡ y
behind_34 x y e = cc

behind_34_58 : (x y : List ℕ) → 34 ∷ (58 ∷ x) ≡ 34 ∷ (58 ∷ y) → x ≡ y
behind_34_58 x y e = cc

pub member_unique : (n : ℕ) → UniqueAt n → (a b : Member) (x y : List ℕ) → FitsMember n a → FitsMember n b → EndsBefore a.value x → IsLongest b.value y → member_text a ++ x ≡ member_text b ++ y → (a ≡ b) × (x ≡ y)
member_unique n unique a b x y good other ends longest e =
    let whole = behind_34 _ _ (sym (member_whole a x) ∙ e ∙ member_whole b y) in
    let names = text_unique a.name b.name _ _ good.0.chars other.0.chars (none_at_quote _) (none_at_quote _) whole in
    let values = unique a.value b.value x y good.1 other.1 ends longest (behind_34_58 _ _ names.1) in
    (ap (λ name. record { name = name; value = a.value }) names.0 ∙ ap (λ value. record { name = b.name; value = value }) values.0, values.1)

pub one_member : (n : ℕ) → UniqueAt n → (close : ℕ) → IsClose close → IsOne (FitsMember n) member_text close
one_member n unique close is a b x y good other ends_x ends_y e =
    member_unique n unique a b x y good other (ends_before a.value x (ends_item close is x ends_x)) (ends_longest b.value y (ends_item close is y ends_y)) e

pub behind_byte : (b : ℕ) (x y : List ℕ) → b ∷ x ≡ b ∷ y → x ≡ y
behind_byte b x y e = cc

-- a value's text in pieces, with what stands behind it
pub list_whole : (xs : List Tree) (x : List ℕ) → spelling (TreeList xs) ++ x ≡ 91 ∷ (separated (map spelling xs) ++ 93 ∷ x)
list_whole xs x = ap (λ l. l ++ x) (spelling-list xs) ∙ ap (λ l. 91 ∷ l) (append_assoc (separated (map spelling xs)) (93 ∷ []) x)

pub object_whole : (xs : List Member) (x : List ℕ) → spelling (TreeObject xs) ++ x ≡ 123 ∷ (separated (map member_text xs) ++ 125 ∷ x)
object_whole xs x = ap (λ l. l ++ x) (spelling-object xs) ∙ ap (λ l. 123 ∷ l) (append_assoc (separated (map member_text xs)) (125 ∷ []) x)

pub str_whole : (s x : List ℕ) → spelling (TreeStr s) ++ x ≡ 34 ∷ (s ++ 34 ∷ x)
str_whole s x = ap (λ l. 34 ∷ l) (append_assoc s (34 ∷ []) x)

-- no value begins with the byte that closes a list, and no member with the one that closes an object
sort_below : {t : Tree} (k : Kind t) → sort k ≤ 5
sort_below null = omega arith
sort_below (bool value) = omega arith
sort_below (str text) = omega arith
sort_below (list trees) = omega arith
sort_below (object named) = omega arith
sort_below (number text) = omega arith

pub no_close : (t : Tree) (x y : List ℕ) → IsJson t → spelling t ++ x ≢ 93 ∷ y
unfolding first
no_close t x y json e = omega (arith, sort_below (kind t), sort_at (kind t) x json, ap (λ l. sort_of (first l)) e)

pub no_member_close : (m : Member) (x y : List ℕ) → member_text m ++ x ≢ 125 ∷ y
no_member_close m x y e = omega (arith, first_same 34 125 _ _ (sym (member_whole m x) ∙ e))

abbrev Below : ℕ → Type 0
Below zero = ⊤
Below (suc n) = UniqueAt n

list_unique : (n : ℕ) → Below n → (xs ys : List Tree) (x y : List ℕ) → Fits n (TreeList xs) → Fits n (TreeList ys) → spelling (TreeList xs) ++ x ≡ spelling (TreeList ys) ++ y → (TreeList xs ≡ TreeList ys) × (x ≡ y)
list_unique zero below xs ys x y good other e = absurd (omega (arith, good.1, nesting-list xs))
list_unique (suc n) below xs ys x y good other e =
    let whole = behind_byte 91 _ _ (sym (list_whole xs x) ∙ e ∙ list_whole ys y) in
    let same = items_unique (Fits n) spelling 93 (λ is. omega (arith, is)) (one_value n below 93 (inr refl)) (λ a z w fits. no_close a z w fits.0) xs ys x y
    (list_fits n xs (good.0, omega (arith, good.1))) (list_fits n ys (other.0, omega (arith, other.1))) whole in
    (ap TreeList same.0, same.1)

object_unique : (n : ℕ) → Below n → (xs ys : List Member) (x y : List ℕ) → Fits n (TreeObject xs) → Fits n (TreeObject ys) → spelling (TreeObject xs) ++ x ≡ spelling (TreeObject ys) ++ y → (TreeObject xs ≡ TreeObject ys) × (x ≡ y)
object_unique zero below xs ys x y good other e = absurd (omega (arith, good.1, nesting-object xs))
object_unique (suc n) below xs ys x y good other e =
    let whole = behind_byte 123 _ _ (sym (object_whole xs x) ∙ e ∙ object_whole ys y) in
    let same = items_unique (FitsMember n) member_text 125 (λ is. omega (arith, is)) (one_member n below 125 (inl (omega arith))) (λ m z w fits. no_member_close m z w) xs ys x y
    (object_fits n xs (good.0, omega (arith, good.1))) (object_fits n ys (other.0, omega (arith, other.1))) whole in
    (ap TreeObject same.0, same.1)

unique_kinds : (n : ℕ) → Below n → {t u : Tree} (k : Kind t) (j : Kind u) (x y : List ℕ) → Fits n t → Fits n u → EndsBefore t x → IsLongest u y → spelling t ++ x ≡ spelling u ++ y → (t ≡ u) × (x ≡ y)
unique_kinds n below null null x y good other ends longest e = (refl, append_cancel_left (spelling TreeNull) x y e)
unique_kinds n below (bool true) (bool true) x y good other ends longest e = (refl, append_cancel_left (spelling (TreeBool true)) x y e)
unique_kinds n below (bool true) (bool false) x y good other ends longest e = absurd (omega (arith, first_same 116 102 _ _ e))
unique_kinds n below (bool false) (bool true) x y good other ends longest e = absurd (omega (arith, first_same 102 116 _ _ e))
unique_kinds n below (bool false) (bool false) x y good other ends longest e = (refl, append_cancel_left (spelling (TreeBool false)) x y e)
unique_kinds n below (number s) (number r) x y good other ends longest e =
    let same = number_unique s r x y good.0 other.0 ends longest e in
    (ap TreeNumber same.0, same.1)
unique_kinds n below (str s) (str r) x y good other ends longest e =
    let whole = behind_byte 34 _ _ (sym (str_whole s x) ∙ e ∙ str_whole r y) in
    let same = text_unique s r (34 ∷ x) (34 ∷ y) good.0.chars other.0.chars (none_at_quote x) (none_at_quote y) whole in
    (ap TreeStr same.0, behind_byte 34 x y same.1)
unique_kinds n below (list xs) (list ys) x y good other ends longest e = list_unique n below xs ys x y good other e
unique_kinds n below (object xs) (object ys) x y good other ends longest e = object_unique n below xs ys x y good other e
unique_kinds n below k j x y good other ends longest e = absurd (omega (arith, same_sort k j x y good.0 other.0 e))

pub unique : (n : ℕ) → UniqueAt n
unique zero t u = unique_kinds zero tt (kind t) (kind u)
unique (suc n) t u = unique_kinds (suc n) (unique n) (kind t) (kind u)

pub unique_json : (t u : Tree) (x y : List ℕ) → IsJson t → IsJson u → EndsBefore t x → IsLongest u y → spelling t ++ x ≡ spelling u ++ y → (t ≡ u) × (x ≡ y)
unique_json t u x y ours theirs ends longest e = unique (nesting t + nesting u) t u x y (ours, omega arith) (theirs, omega arith) ends longest e

-- no value at the front is longer than the one that is read
longest_kind : {t u : Tree} (k : Kind t) (j : Kind u) (x y : List ℕ) → IsJson t → IsJson u → IsLongest u y → spelling t ++ x ≡ spelling u ++ y → length y ≤ length x
longest_kind (number s) (number r) x y ours theirs longest e = longest s x ours (sym e)
longest_kind (number s) j x y ours theirs longest e = absurd (omega (arith, same_sort (number s) j x y ours theirs e))
longest_kind {t} {u} null j x y ours theirs longest e = omega (arith, ap length (unique_json t u x y ours theirs tt longest e).1)
longest_kind {t} {u} (bool value) j x y ours theirs longest e = omega (arith, ap length (unique_json t u x y ours theirs tt longest e).1)
longest_kind {t} {u} (str text) j x y ours theirs longest e = omega (arith, ap length (unique_json t u x y ours theirs tt longest e).1)
longest_kind {t} {u} (list trees) j x y ours theirs longest e = omega (arith, ap length (unique_json t u x y ours theirs tt longest e).1)
longest_kind {t} {u} (object named) j x y ours theirs longest e = omega (arith, ap length (unique_json t u x y ours theirs tt longest e).1)

pub longest_value : (t u : Tree) (x y : List ℕ) → IsJson t → IsJson u → IsLongest u y → spelling t ++ x ≡ spelling u ++ y → length y ≤ length x
longest_value t u x y ours theirs longest e = longest_kind (kind t) (kind u) x y ours theirs longest e

-- the laws
pub one_at_front : (t u : Tree) (x y : List ℕ) → IsJson t → IsJson u → EndsBefore t x → EndsBefore u y → spelling t ++ x ≡ spelling u ++ y → (t ≡ u) × (x ≡ y)
one_at_front t u x y ours theirs ends_x ends_y e = unique_json t u x y ours theirs ends_x (longest_where_ends (kind u) y ends_y) e

pub one_text : (t u : Tree) → IsJson t → IsJson u → spelling t ≡ spelling u → t ≡ u
one_text t u ours theirs e = (one_at_front t u [] [] ours theirs (ends_before t [] tt) (ends_before u [] tt) (ap (λ l. l ++ []) e)).0
