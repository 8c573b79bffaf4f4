-- Lists of strings, as lists of what they hold.
use Rattle.std.proofs.Common.{◌≡◌, ℕ, List, [], ◌∷◌, ◌++◌, map, refl, sym, ap, ◌∙◌, subst}
use Rattle.cesr_codes.proofs.Same.{same_key}
use Rattle.std.specs.Prelude.{Bool, IsTrue, ◌↔◌}
use Rattle.std.specs.List.{AllByRecursion}
use Rattle.cesr_codes.specs.declared.fixed_key.FixedKey.{FixedKey}
use Rattle.cesr_codes.specs.declared.key.Key.{Key}
use Rattle.cesr_codes.specs.Spelling.{key_text, IsKey}
use Rattle.json_tree.specs.declared.tree.Tree.{Tree}
use Rattle.json_tree.specs.declared.tree.Tree.TheVariants.{Str, List as TreeList}
use Rattle.json_tree.specs.Spelling.{IsJson, Fits}
use Rattle.json_tree.specs.Strings.{IsString}
use Rattle.json_tree.proofs.Unique.{list_fits}
use Rattle.json_tree.proofs.Trees.{IsJson-to_list}
use Rattle.sith.proofs.Values.{list_injective}
use Rattle.event_body.specs.declared.body_fields.form.Form.TheVariants.{FixedKeys, Strings, Values}
use Rattle.event_body.specs.BodyFields.Forms.{IsOfForm, AreFixed, key_value, keys_value}
use Rattle.event_body.specs.BodyFields.Strings.{HoldsOne, IsListOf, IsText}

-- what is said of the members of a list
pub members_are : (Is : Tree → Type 0) (value : Tree) (members : List Tree) → value ≡ TreeList members → IsListOf Is value → AllByRecursion Is members
members_are Is value members at is = subst (AllByRecursion Is) (list_injective is.0 members (sym is.2 ∙ at)) is.1

-- a test of one fact, where each of two facts gives the other
pub through : {A B : Type 0} (b : Bool) → (IsTrue b ↔ A) → (A → B) → (B → A) → IsTrue b ↔ B
through b test there back = (λ yes. there (test.0 yes), λ is. test.1 (back is))

module _ {P : Type 0} (spelling : P → List ℕ) (IsValid : P → Type 0) where
  gathered : (values : List Tree) → AllByRecursion (HoldsOne spelling IsValid) values → (ps : List P) × AllByRecursion IsValid ps × (values ≡ map (λ p. Str (spelling p)) ps)
  gathered [] all = ([], tt, refl)
  gathered (v ∷ values) all =
      let rest = gathered values all.1 in
      (all.0.0 ∷ rest.0, (all.0.1.0, rest.1), ap (λ x. x ∷ values) all.0.1.1 ∙ ap (λ xs. Str (spelling all.0.0) ∷ xs) rest.2)

  pub spread : (ps : List P) → AllByRecursion IsValid ps → AllByRecursion (HoldsOne spelling IsValid) (map (λ p. Str (spelling p)) ps)
  spread [] all = tt
  spread (p ∷ ps) all = ((p, (all.0, refl)), spread ps all.1)

  -- a list of strings that hold one each is the list of what they hold
  pub held_there : (value : Tree) → IsListOf (HoldsOne spelling IsValid) value → (ps : List P) × AllByRecursion IsValid ps × (value ≡ TreeList (map (λ p. Str (spelling p)) ps))
  held_there value is = let all = gathered is.0 is.1 in (all.0, all.1, is.2 ∙ ap TreeList all.2)

  pub held_back : (value : Tree) → ((ps : List P) × AllByRecursion IsValid ps × (value ≡ TreeList (map (λ p. Str (spelling p)) ps))) → IsListOf (HoldsOne spelling IsValid) value
  held_back value is = (map (λ p. Str (spelling p)) is.0, spread is.0 is.1, is.2)

-- keys that can't be rotated
abbrev pub IsFixedOne : Tree → Type 0
IsFixedOne = HoldsOne {P = FixedKey} (λ fixed. key_text fixed.key) (λ fixed. IsKey fixed.key)

fixed_gathered : (values : List Tree) → AllByRecursion IsFixedOne values → (keys : List Key) × AllByRecursion IsKey keys × AreFixed keys × (values ≡ map key_value keys)
fixed_gathered [] all = ([], tt, tt, refl)
fixed_gathered (v ∷ values) all =
    let rest = fixed_gathered values all.1 in
    let fixed = all.0.0 in
    (fixed.key ∷ rest.0, (all.0.1.0, rest.1), (fixed.fixed, rest.2), ap (λ x. x ∷ values) all.0.1.1 ∙ ap (λ xs. key_value fixed.key ∷ xs) rest.3)

fixed_spread : (keys : List Key) → AllByRecursion IsKey keys → AreFixed keys → AllByRecursion IsFixedOne (map key_value keys)
fixed_spread [] all fixed = tt
fixed_spread (key ∷ keys) all fixed = ((record { key = key; fixed = fixed.0 }, (all.0, refl)), fixed_spread keys all.1 fixed.1)

pub fixed_there : (value : Tree) → IsListOf IsFixedOne value → IsOfForm FixedKeys value
fixed_there value is = let all = fixed_gathered is.0 is.1 in (all.0, all.1, all.2, is.2 ∙ ap TreeList all.3)

pub fixed_back : (value : Tree) → IsOfForm FixedKeys value → IsListOf IsFixedOne value
fixed_back value is = (map key_value is.0, fixed_spread is.0 is.1 is.2, is.3)

-- strings
strings_gathered : (values : List Tree) → AllByRecursion IsJson values → AllByRecursion IsText values → (texts : List (List ℕ)) × AllByRecursion IsString texts × (values ≡ map (λ text. Str text) texts)
strings_gathered [] json all = ([], tt, refl)
strings_gathered (v ∷ values) json all =
    let rest = strings_gathered values json.1 all.1 in
    (all.0.0 ∷ rest.0, (subst IsJson all.0.1 json.0, rest.1), ap (λ x. x ∷ values) all.0.1 ∙ ap (λ xs. Str all.0.0 ∷ xs) rest.2)

strings_spread : (texts : List (List ℕ)) → AllByRecursion IsText (map (λ text. Str text) texts)
strings_spread [] = tt
strings_spread (text ∷ texts) = ((text, refl), strings_spread texts)

pub strings_there : (value : Tree) → IsJson value → IsListOf IsText value → IsOfForm Strings value
strings_there value json is =
    let all = strings_gathered is.0 (IsJson-to_list is.0 (subst IsJson is.2 json)) is.1 in
    (all.0, all.1, is.2 ∙ ap TreeList all.2)

pub strings_back : (value : Tree) → IsOfForm Strings value → IsListOf IsText value
strings_back value is = (map (λ text. Str text) is.0, strings_spread is.0, is.2)

-- values
pub values_there : (value : Tree) (values : List Tree) → Fits 9 value → value ≡ TreeList values → IsOfForm Values value
values_there value values fits is =
    let here = subst (Fits 9) is fits in
    (values, list_fits 8 values here, is)

-- two lists of keys with one value are one
same_keys : (keys others : List Key) → AllByRecursion IsKey keys → AllByRecursion IsKey others → map key_value keys ≡ map key_value others → keys ≡ others
same_keys [] [] is js e = refl
same_keys [] (k ∷ others) is js e = cc
same_keys (k ∷ keys) [] is js e = cc
same_keys (k ∷ keys) (l ∷ others) is js e =
    let texts : key_text k ≡ key_text l = cc in
    let first = (same_key k l [] [] is.0 js.0 (ap (λ x. x ++ []) texts)).0 in
    let behind : map key_value keys ≡ map key_value others = cc in
    cc (first, same_keys keys others is.1 js.1 behind)

pub are_fixed : (value : Tree) (keys : List Key) → IsOfForm FixedKeys value → AllByRecursion IsKey keys → value ≡ keys_value keys → AreFixed keys
are_fixed value keys is valid at = subst AreFixed (same_keys is.0 keys is.1 valid (list_injective _ _ (sym is.3 ∙ at))) is.2
