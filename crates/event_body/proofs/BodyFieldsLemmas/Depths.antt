-- A value of a form is a string or a list, is JSON, and nests no deeper than its form says. So one stands at the front.
use Rattle.std.proofs.Common.{◌≡◌, ℕ, ◌+◌, List, [], ◌∷◌, ◌++◌, map, refl, sym, arith, subst, inl, inr, codes}
use Rattle.std.specs.List.{AllByRecursion}
use Rattle.cesr_codes.specs.Spelling.{digest_text, key_text, IsDigest, IsKey}
use Rattle.json_tree.specs.declared.tree.Tree.{Tree}
use Rattle.json_tree.specs.declared.tree.Tree.TheVariants.{Str, List as TreeList}
use Rattle.json_tree.specs.Spelling.{spelling, separated, IsJson, Fits, EndsBefore}
use Rattle.json_tree.specs.Strings.{IsString}
use Rattle.json_tree.proofs.Readers.{reads_list}
use Rattle.json_tree.proofs.Unique.{one_at_front}
use Rattle.event_body.specs.declared.body_fields.form.Form.{Form}
use Rattle.event_body.specs.declared.body_fields.form.Form.TheVariants.{Digest as OneDigest, Prefix as OnePrefix, Zero, Positive, Number, Threshold, Keys, FixedKeys, Digests, Strings, Values}
use Rattle.event_body.specs.BodyFields.Forms.{IsOfForm, depth_of, IsStringOrList}
use Rattle.sith.proofs.Plain.{number_string}
use Rattle.event_body.proofs.BodyFieldsLemmas.Plain.{digest_string, key_string, prefix_string}

-- a string
string_fits : (value : Tree) (text : List ℕ) → value ≡ Str text → IsString text → Fits 0 value × IsStringOrList value
string_fits value text at is = (subst (Fits 0) (sym at) (is, omega arith), inl (text, at))

-- a list
list_fits : (n : ℕ) (value : Tree) (values : List Tree) → value ≡ TreeList values → AllByRecursion (Fits n) values → Fits (n + 1) value × IsStringOrList value
list_fits n value values at all =
    let reads = reads_list n (n + 1) refl (separated (map spelling values) ++ 93 ∷ []) values [] (record { each = all; whole = refl }) in
    (subst (Fits (n + 1)) (sym at) reads.fits, inr (values, at))

strings_fit : {P : Type 0} (text : P → List ℕ) → (IsTyped : P → Type 0) → ((p : P) → IsTyped p → IsString (text p)) → (ps : List P) → AllByRecursion IsTyped ps → AllByRecursion (Fits 0) (map (λ p. Str (text p)) ps)
strings_fit text IsTyped is [] all = tt
strings_fit text IsTyped is (p ∷ ps) all = ((is p all.0, omega arith), strings_fit text IsTyped is ps all.1)

-- of each form
pub form_fits : (form : Form) (value : Tree) → IsOfForm form value → Fits (depth_of form) value × IsStringOrList value
form_fits OneDigest value is = string_fits value _ is.2 (digest_string is.0)
form_fits OnePrefix value is = string_fits value _ is.2 (prefix_string is.0)
form_fits Zero value is = string_fits value (codes "0") is (number_string (codes "0") (refl, omega arith, inr refl))
form_fits Positive value is = string_fits value is.0 is.1.1 (number_string is.0 is.1.0)
form_fits Number value is = string_fits value is.0 is.1.1 (number_string is.0 is.1.0)
form_fits Threshold value is = is
form_fits Keys value is = list_fits 0 value _ is.2 (strings_fit key_text IsKey (λ k held. key_string k) is.0 is.1)
form_fits FixedKeys value is = list_fits 0 value _ is.3 (strings_fit key_text IsKey (λ k held. key_string k) is.0 is.1)
form_fits Digests value is = list_fits 0 value _ is.2 (strings_fit digest_text IsDigest (λ d held. digest_string d) is.0 is.1)
form_fits Strings value is = list_fits 0 value _ is.2 (strings_fit (λ text. text) IsString (λ text held. held) is.0 is.1)
form_fits Values value is = list_fits 8 value is.0 is.2 is.1

-- a string or a list of JSON
abbrev pub IsValue : Tree → Type 0
IsValue value = IsJson value × IsStringOrList value

pub form_value : (form : Form) (value : Tree) → IsOfForm form value → IsValue value
form_value form value is = let fits = form_fits form value is in (fits.0.0, fits.1)

-- nothing that follows can belong to it
value_ends : (value : Tree) (rest : List ℕ) → IsStringOrList value → EndsBefore value rest
value_ends value rest is = elim is [
  | inl text ↦ subst (λ v. EndsBefore v rest) (sym text.1) tt
  | inr list ↦ subst (λ v. EndsBefore v rest) (sym list.1) tt
]

pub form_ends : (form : Form) (value : Tree) (rest : List ℕ) → IsOfForm form value → EndsBefore value rest
form_ends form value rest is = value_ends value rest (form_fits form value is).1

-- such values are one where they stand at the front of the same bytes
pub same_value : (a b : Tree) (r s : List ℕ) → IsValue a → IsValue b → spelling a ++ r ≡ spelling b ++ s → (a ≡ b) × (r ≡ s)
same_value a b r s ia ib e = one_at_front a b r s ia.0 ib.0 (value_ends a r ia.1) (value_ends b s ib.1) e
