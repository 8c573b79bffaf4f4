-- Values of fields that are lists and thresholds.
use Rattle.std.proofs.Common.{◌≡◌, ◌≢◌, ◌⊎◌, ℕ, List, [], ◌∷◌, length, map, false, codes, refl, sym, ap, subst, ◌∙◌, arith, inl, inr, Ok, Err, Result}
use Rattle.std.specs.List.{AllByRecursion}
use Rattle.std.proofs.lemmas.Fmt.{hex_one_digit}
use Rattle.lists.specs.KeriSpecs.Hex.{hex_value}
use Rattle.std.proofs.lemmas.List.{length-map}
use Rattle.json_tree.specs.declared.tree.Tree.{Tree}
use Rattle.json_tree.specs.declared.tree.Tree.TheVariants.{Str, List as TreeList}
use Rattle.json_tree.specs.Spelling.{Fits}
use Rattle.json_tree.specs.Strings.{IsString}
use Rattle.sith.specs.declared.sith_fault.SithFault.{SithFault}
use Rattle.sith.specs.declared.sith_fault.SithFault.TheVariants.{OutOfMemory}
use Rattle.sith.specs.declared.threshold.Threshold.{Threshold}
use Rattle.sith.specs.Thresholds.{Spells}
use Rattle.sith.specs.Rules.{IsReadFor}
use Rattle.sith.proofs.OneThreshold.{text_injective}
use Rattle.sith.proofs.Values.{list_injective}
use Rattle.event_body.specs.declared.body_fields.form.Form.TheVariants.{Strings, Values}
use Rattle.event_body.specs.BodyFields.Forms.{IsOfForm, IsNumberValue, strings_value, number_value}
use Rattle.event_body.proofs.BodyFieldsLemmas.Texts.{number_is}
use Rattle.event_body.specs.EventBody.Rules.{HasFewDigits, IsThresholdOf}

-- a list of the spellings of values has as many members
pub length_listed : {A : Type 0} (f : A → Tree) (members : List Tree) (xs : List A) → TreeList members ≡ TreeList (map f xs) → length members ≡ length xs
length_listed f members xs e = ap length (list_injective members (map f xs) e) ∙ length-map xs f

-- where a reading answers another fault than want of memory, no threshold for so many is spelled
pub no_threshold : (value : Tree) (members : List Tree) (result : Result Threshold SithFault) (fault : SithFault) → result ≡ Err fault → fault ≢ OutOfMemory
    → ((t : Threshold) → Spells t value → IsReadFor t (length members) → (result ≡ Ok t) ⊎ (result ≡ Err OutOfMemory)) → ¬ IsThresholdOf value (TreeList members)
no_threshold value members result fault is other only (threshold, listed, spells, same, read) =
    elim (only threshold spells (subst (λ l. IsReadFor threshold (length l)) (sym (list_injective members listed same)) read)) [ inl e ↦ cc (is, e) | inr e ↦ other (cc (is, e)) ]

-- lists of the spellings of values that have one spelling each
module _ {A : Type 0} (f : A → Tree) (IsValid : A → Type 0) (one : (a b : A) → IsValid a → IsValid b → f a ≡ f b → a ≡ b) where
  one_row : (xs ys : List A) → AllByRecursion IsValid xs → AllByRecursion IsValid ys → map f xs ≡ map f ys → xs ≡ ys
  one_row [] [] ix iy e = refl
  one_row [] (y ∷ ys) ix iy e = cc e
  one_row (x ∷ xs) [] ix iy e = cc e
  one_row (x ∷ xs) (y ∷ ys) ix iy e =
      let first : f x ≡ f y = cc e in
      let rest : map f xs ≡ map f ys = cc e in
      let head = one x y ix.0 iy.0 first in
      let tail = one_row xs ys ix.1 iy.1 rest in
      cc (head, tail)

  pub one_list : (xs ys : List A) → AllByRecursion IsValid xs → AllByRecursion IsValid ys → TreeList (map f xs) ≡ TreeList (map f ys) → xs ≡ ys
  one_list xs ys ix iy e = one_row xs ys ix iy (list_injective (map f xs) (map f ys) e)

-- a list of strings has one list of texts
pub one_strings : (xs ys : List (List ℕ)) → strings_value xs ≡ strings_value ys → xs ≡ ys
one_strings xs ys e = one_list (λ text. Str text) (λ text. Unit {0}) (λ a b ia ib same. text_injective a b same) xs ys (all xs) (all ys) e
  where
    all : (texts : List (List ℕ)) → AllByRecursion (λ text. Unit {0}) texts
    all [] = tt
    all (text ∷ texts) = (tt, all texts)

-- lists of strings and of values that are found are in their ranges
pub strings_held : (value : Tree) (texts : List (List ℕ)) → IsOfForm Strings value → value ≡ strings_value texts → AllByRecursion IsString texts
strings_held value texts (others, held, is) e = subst (AllByRecursion IsString) (one_strings others texts (sym is ∙ e)) held

pub values_held : (value : Tree) (values : List Tree) → IsOfForm Values value → value ≡ TreeList values → AllByRecursion (Fits 8) values
values_held value values (others, held, is) e = subst (AllByRecursion (Fits 8)) (list_injective _ _ (sym is ∙ e)) held

-- the number 0 is written as one digit
pub zero_written : Str (codes "0") ≡ number_value 0
zero_written = ap Str (sym (hex_one_digit false 0 (omega arith)))

-- a number of few digits is that of its value
pub number_written : (text : List ℕ) (value : Tree) → IsNumberValue text value → HasFewDigits value → value ≡ number_value (hex_value text)
number_written text value is few = number_is text value is (few text is.1 is.0)
