-- What a field's value may be, as a JSON value (KERI: field maps; this project's profile).
use Rattle.std.specs.Prelude.{◌≡◌, ◌≢◌, ◌⊎◌, ℕ, false, List, map, codes}
use Rattle.std.specs.Fmt.{digits}
use Rattle.std.specs.List.{AllByRecursion}
use Rattle.lists.specs.KeriSpecs.Hex.{IsHexNumber}
use Rattle.cesr_codes.specs.declared.digest.Digest.{Digest}
use Rattle.cesr_codes.specs.declared.key.Key.{Key}
use Rattle.cesr_codes.specs.declared.key.KeyCode.TheVariants.{Fixed}
use Rattle.cesr_codes.specs.declared.prefix.Prefix.{Prefix}
use Rattle.cesr_codes.specs.Spelling.{digest_text, key_text, prefix_text, IsDigest, IsKey, IsPrefix}
use Rattle.json_tree.specs.declared.tree.Tree.{Tree}
use Rattle.json_tree.specs.declared.tree.Tree.TheVariants.{Str, List as TreeList}
use Rattle.json_tree.specs.Spelling.{Fits}
use Rattle.json_tree.specs.Strings.{IsString}
use Rattle.event_body.specs.declared.body_fields.form.Form.{Form}
use Rattle.event_body.specs.declared.body_fields.form.Form.TheVariants.{Digest as OneDigest, Prefix as OnePrefix, Zero, Positive, Number, Threshold, Keys, FixedKeys, Digests, Strings, Values}

-- a digest, a key and an identifier as strings
abbrev pub digest_value : Digest → Tree
digest_value d = Str (digest_text d)

abbrev pub key_value : Key → Tree
key_value k = Str (key_text k)

abbrev pub prefix_value : Prefix → Tree
prefix_value p = Str (prefix_text p)

-- a number in lower-case hexadecimal digits
abbrev pub number_value : ℕ → Tree
number_value n = Str (digits 16 false n)

-- lists of keys, digests and strings
abbrev pub keys_value : List Key → Tree
keys_value keys = TreeList (map key_value keys)

abbrev pub digests_value : List Digest → Tree
digests_value digests = TreeList (map digest_value digests)

abbrev pub strings_value : List (List ℕ) → Tree
strings_value texts = TreeList (map (λ text. Str text) texts)

-- the digits of a number
abbrev pub IsNumberValue : List ℕ → Tree → Type 0
IsNumberValue text tree = IsHexNumber text × (tree ≡ Str text)

-- keys that can't be rotated
abbrev pub AreFixed : List Key → Type 0
AreFixed keys = AllByRecursion (λ k. k.code ≡ Fixed) keys

-- a string or a list
abbrev pub IsStringOrList : Tree → Type 0
IsStringOrList tree = ((text : List ℕ) × (tree ≡ Str text)) ⊎ ((values : List Tree) × (tree ≡ TreeList values))

-- how deep a threshold may nest: a list of clauses, each a list, with groups that are objects of a list
abbrev pub threshold_depth : ℕ
threshold_depth = 4

-- how deep a value of the form may nest
abbrev pub depth_of : Form → ℕ
depth_of OneDigest = 0
depth_of OnePrefix = 0
depth_of Zero = 0
depth_of Positive = 0
depth_of Number = 0
depth_of Threshold = threshold_depth
depth_of Keys = 1
depth_of FixedKeys = 1
depth_of Digests = 1
depth_of Strings = 1
depth_of Values = 9

-- The value is of the form. A threshold nests no deeper than it may, and each value of a list of values at most 8 deep.
abbrev pub IsOfForm : Form → Tree → Type 0
IsOfForm OneDigest tree = (d : Digest) × IsDigest d × (tree ≡ digest_value d)
IsOfForm OnePrefix tree = (p : Prefix) × IsPrefix p × (tree ≡ prefix_value p)
IsOfForm Zero tree = tree ≡ Str (codes "0")
IsOfForm Positive tree = (text : List ℕ) × IsNumberValue text tree × (text ≢ codes "0")
IsOfForm Number tree = (text : List ℕ) × IsNumberValue text tree
IsOfForm Threshold tree = Fits threshold_depth tree × IsStringOrList tree
IsOfForm Keys tree = (keys : List Key) × AllByRecursion IsKey keys × (tree ≡ keys_value keys)
IsOfForm FixedKeys tree = (keys : List Key) × AllByRecursion IsKey keys × AreFixed keys × (tree ≡ keys_value keys)
IsOfForm Digests tree = (digests : List Digest) × AllByRecursion IsDigest digests × (tree ≡ digests_value digests)
IsOfForm Strings tree = (texts : List (List ℕ)) × AllByRecursion IsString texts × (tree ≡ strings_value texts)
IsOfForm Values tree = (values : List Tree) × AllByRecursion (Fits 8) values × (tree ≡ TreeList values)
