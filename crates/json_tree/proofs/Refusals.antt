-- Where no value stands.
use Rattle.std.proofs.Common.{◌≡◌, ◌≢◌, ℕ, ◌+◌, List, ◌∷◌, ◌++◌, true, false, ◌∙◌, arith}
use Rattle.json_tree.specs.declared.tree.Tree.{Tree}
use Rattle.json_tree.specs.Fronts.{NoneStands}
use Rattle.json_tree.specs.Numbers.{IsNumber}
use Rattle.json_tree.specs.Strings.{IsString}
use Rattle.json_tree.specs.Spelling.{spelling, IsJson, member_text, Fits, FitsMember}
use Rattle.json_tree.specs.Reading.{NoValue, NoWord, NoItems}
use Rattle.json_tree.proofs.Trees.{Kind, null, bool, number, str, list, object, kind, nesting-list, nesting-object}
use Rattle.json_tree.proofs.Unique.{behind_byte, str_whole, list_whole, object_whole, list_fits, object_fits, wrong_sort}

abbrev NoString : List ℕ → Type 0
NoString bytes = (text rest : List ℕ) → IsString text → bytes ≢ text ++ 34 ∷ rest

no_str : {t : Tree} (k : Kind t) (depth : ℕ) (bytes rest : List ℕ) → NoString bytes → Fits depth t → 34 ∷ bytes ≡ spelling t ++ rest → ⊥
no_str (str text) depth bytes rest none fits e = none text rest fits.0 (behind_byte 34 _ _ (e ∙ str_whole text rest))
no_str k depth bytes rest none fits e = omega (arith, wrong_sort k 34 bytes rest fits.0 e)

pub none_str : (bytes : List ℕ) → ((text rest : List ℕ) → IsString text → bytes ≢ text ++ 34 ∷ rest) → (depth : ℕ) → NoValue depth (34 ∷ bytes)
none_str bytes none depth tree rest fits e = no_str (kind tree) depth bytes rest none fits e

no_list_at_0 : {t : Tree} (k : Kind t) (bytes rest : List ℕ) → Fits 0 t → 91 ∷ bytes ≡ spelling t ++ rest → ⊥
no_list_at_0 (list trees) bytes rest fits e = omega (arith, fits.1, nesting-list trees)
no_list_at_0 k bytes rest fits e = omega (arith, wrong_sort k 91 bytes rest fits.0 e)

pub none_list_at_0 : (bytes : List ℕ) → NoValue 0 (91 ∷ bytes)
none_list_at_0 bytes tree rest fits e = no_list_at_0 (kind tree) bytes rest fits e

no_object_at_0 : {t : Tree} (k : Kind t) (bytes rest : List ℕ) → Fits 0 t → 123 ∷ bytes ≡ spelling t ++ rest → ⊥
no_object_at_0 (object named) bytes rest fits e = omega (arith, fits.1, nesting-object named)
no_object_at_0 k bytes rest fits e = omega (arith, wrong_sort k 123 bytes rest fits.0 e)

pub none_object_at_0 : (bytes : List ℕ) → NoValue 0 (123 ∷ bytes)
none_object_at_0 bytes tree rest fits e = no_object_at_0 (kind tree) bytes rest fits e

no_list : {t : Tree} (k : Kind t) (depth : ℕ) (bytes rest : List ℕ) → NoItems (Fits depth) spelling 93 bytes → Fits (depth + 1) t → 91 ∷ bytes ≡ spelling t ++ rest → ⊥
no_list (list trees) depth bytes rest none fits e = none trees rest (list_fits depth trees fits) (behind_byte 91 _ _ (e ∙ list_whole trees rest))
no_list k depth bytes rest none fits e = omega (arith, wrong_sort k 91 bytes rest fits.0 e)

pub none_list : (depth : ℕ) (bytes : List ℕ) → NoItems (Fits depth) spelling 93 bytes → NoValue (depth + 1) (91 ∷ bytes)
none_list depth bytes none tree rest fits e = no_list (kind tree) depth bytes rest none fits e

no_object : {t : Tree} (k : Kind t) (depth : ℕ) (bytes rest : List ℕ) → NoItems (FitsMember depth) member_text 125 bytes → Fits (depth + 1) t → 123 ∷ bytes ≡ spelling t ++ rest → ⊥
no_object (object named) depth bytes rest none fits e = none named rest (object_fits depth named fits) (behind_byte 123 _ _ (e ∙ object_whole named rest))
no_object k depth bytes rest none fits e = omega (arith, wrong_sort k 123 bytes rest fits.0 e)

pub none_object : (depth : ℕ) (bytes : List ℕ) → NoItems (FitsMember depth) member_text 125 bytes → NoValue (depth + 1) (123 ∷ bytes)
none_object depth bytes none tree rest fits e = no_object (kind tree) depth bytes rest none fits e

-- what begins with none of the signs of a value
no_value : {t : Tree} (k : Kind t) (bytes rest : List ℕ) → ((rest : List ℕ) → bytes ≢ 34 ∷ rest) → ((rest : List ℕ) → bytes ≢ 91 ∷ rest) → ((rest : List ℕ) → bytes ≢ 123 ∷ rest) → NoWord bytes → NoneStands IsNumber bytes → IsJson t → bytes ≡ spelling t ++ rest → ⊥
no_value null bytes rest no_str no_list no_object no_word no_number json e = no_word.null rest e
no_value (bool true) bytes rest no_str no_list no_object no_word no_number json e = no_word.true rest e
no_value (bool false) bytes rest no_str no_list no_object no_word no_number json e = no_word.false rest e
no_value (number text) bytes rest no_str no_list no_object no_word no_number json e = no_number text rest json e
no_value (str text) bytes rest no_str no_list no_object no_word no_number json e = no_str _ (e ∙ str_whole text rest)
no_value (list trees) bytes rest no_str no_list no_object no_word no_number json e = no_list _ (e ∙ list_whole trees rest)
no_value (object named) bytes rest no_str no_list no_object no_word no_number json e = no_object _ (e ∙ object_whole named rest)

pub none_value : (depth : ℕ) (bytes : List ℕ) → ((rest : List ℕ) → bytes ≢ 34 ∷ rest) → ((rest : List ℕ) → bytes ≢ 91 ∷ rest) → ((rest : List ℕ) → bytes ≢ 123 ∷ rest) → NoWord bytes → NoneStands IsNumber bytes → NoValue depth bytes
none_value depth bytes no_str no_list no_object no_word no_number tree rest fits e = no_value (kind tree) bytes rest no_str no_list no_object no_word no_number fits.0 e
