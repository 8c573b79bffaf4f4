-- A body of values is their text, which says its own size.
use Rattle.std.proofs.Common.{◌≡◌, ℕ, ◌+◌, ◌/◌, ◌%◌, ◌^◌, ◌<◌, ◌≤◌, true, false, List, ◌++◌, length, codes, refl, sym, ap, ◌∙◌, arith, length-append, append_assoc}
use Rattle.std.specs.Fmt.{digit_glyph}
use Rattle.std.specs.List.{AllByRecursion}
use Rattle.std.proofs.Math.Nat.{pow-le-pow_right}
use Rattle.std.proofs.lemmas.Bool.Decides.{nat_tests}
use Rattle.lists.specs.KeriSpecs.Hex.{is_hex, hex_digit, hex_value}
use Rattle.json_tree.specs.declared.tree.Tree.{Tree}
use Rattle.json_tree.specs.declared.tree.Tree.TheVariants.{Str}
use Rattle.event_body.specs.declared.body_fields.kind.Kind.{Kind}
use Rattle.event_body.specs.BodyFields.Versions.{IsSize, size_text, version_text}
use Rattle.event_body.specs.BodyFields.Forms.{IsNumberValue, number_value}
use Rattle.event_body.specs.BodyFields.Maps.{fields_of}
use Rattle.event_body.specs.BodyFields.Bodies.{kind_text, head_text, members_text, behind_version, body_text, AreOfForms, IsBody}
use Rattle.event_body.proofs.BodyFieldsLemmas.Depths.{IsValue}
use Rattle.event_body.proofs.BodyFieldsLemmas.Heads.{same_head}
use Rattle.event_body.proofs.BodyFieldsLemmas.Members.{same_members}
use Rattle.sith.proofs.Digits.{same_digits, value_low, printed}

glyph_hex : (d : ℕ) → d < 16 → is_hex (digit_glyph false d) ≡ true
glyph_hex d small = grind (arith, nat_tests)

glyph_value : (d : ℕ) → d < 16 → hex_digit (digit_glyph false d) ≡ d
glyph_value d small = grind (arith, nat_tests)

-- a size is six hexadecimal digits
pub sized : (n : ℕ) → IsSize (size_text n)
sized n = (
  refl,
  rw (
    glyph_hex (n / 1048576 % 16) (omega arith),
    glyph_hex (n / 65536 % 16) (omega arith),
    glyph_hex (n / 4096 % 16) (omega arith),
    glyph_hex (n / 256 % 16) (omega arith),
    glyph_hex (n / 16 % 16) (omega arith),
    glyph_hex (n % 16) (omega arith),
  )
      refl,
)

-- of that value
size_value : (n : ℕ) → n < 16777216 → hex_value (size_text n) ≡ n
size_value n few =
    omega (
      arith,
      few,
      glyph_value (n / 1048576 % 16) (omega arith),
      glyph_value (n / 65536 % 16) (omega arith),
      glyph_value (n / 4096 % 16) (omega arith),
      glyph_value (n / 256 % 16) (omega arith),
      glyph_value (n / 16 % 16) (omega arith),
      glyph_value (n % 16) (omega arith),
    )

-- the size that the text says
abbrev pub size_of : Kind → List Tree → List ℕ
size_of kind values = size_text (24 + length (behind_version kind values))

head_long : (size : List ℕ) → length size ≡ 6 → length (version_text size) ≡ 24
head_long size six = omega (arith, six, length-append (codes "{\"v\":\"KERI10JSON") (size ++ codes "_\""), length-append size (codes "_\""))

behind_head : (size : List ℕ) (kind : Kind) (values : List Tree) → head_text size kind ++ (members_text (fields_of kind) values ++ codes "}") ≡ version_text size ++ behind_version kind values
behind_head size kind values = append_assoc (version_text size) (kind_text kind) (members_text (fields_of kind) values ++ codes "}")

-- the text with its head
pub headed : (kind : Kind) (values : List Tree) → body_text kind values ≡ head_text (size_of kind values) kind ++ (members_text (fields_of kind) values ++ codes "}")
headed kind values = sym (behind_head (size_of kind values) kind values)

pub text_long : (kind : Kind) (values : List Tree) → length (body_text kind values) ≡ 24 + length (behind_version kind values)
text_long kind values =
    omega (arith, length-append (version_text (size_of kind values)) (behind_version kind values), head_long (size_of kind values) (sized (24 + length (behind_version kind values))).0)

-- a body of these values is their text
module _ (kind : Kind) (values : List Tree) (bytes : List ℕ) (body : IsBody kind values bytes) where
  parts : bytes ≡ version_text body.size ++ behind_version kind values
  parts = body.text ∙ behind_head body.size kind values

  long : length bytes ≡ 24 + length (behind_version kind values)
  long = ap length parts ∙ length-append (version_text body.size) (behind_version kind values) ∙ ap (λ n. n + length (behind_version kind values)) (head_long body.size body.sized.0)

  few : length bytes < 16777216
  few = let six : hex_value body.size < 16 ^ length body.size = value_low body.size body.sized.1 in
      omega (arith, body.size_is, six, ap (λ k. 16 ^ k) body.sized.0)

  pub own_size : body.size ≡ size_of kind values
  own_size =
      let written = sized (24 + length (behind_version kind values)) in
      same_digits body.size (size_of kind values) body.sized.1 written.1 (body.sized.0 ∙ sym written.0)
      (body.size_is ∙ long ∙ sym (size_value (24 + length (behind_version kind values)) (omega (arith, long, few))))

  pub text_is : bytes ≡ body_text kind values
  text_is = parts ∙ ap (λ size. version_text size ++ behind_version kind values) own_size

-- the text of values of the forms is a body
pub is_body : (kind : Kind) (values : List Tree) → AreOfForms (fields_of kind) values → length (body_text kind values) < 2 ^ 24 → IsBody kind values (body_text kind values)
is_body kind values forms few = record {
  size = size_of kind values;
  sized = sized (24 + length (behind_version kind values));
  size_is = size_value (24 + length (behind_version kind values)) (omega (arith, text_long kind values, few)) ∙ sym (text_long kind values);
  of_forms = forms;
  text = headed kind values;
}

-- a text is one of a kind and of values
pub same_text : (k l : Kind) (v w : List Tree) → AllByRecursion IsValue v → AllByRecursion IsValue w → length v ≡ length (fields_of k) → length w ≡ length (fields_of l)
    → body_text k v ≡ body_text l w → (k ≡ l) × (v ≡ w)
same_text k l v w iv iw lv lw e =
    let same = same_head (size_of k v) (size_of l w) k l _ _ (sized (24 + length (behind_version k v))) (sized (24 + length (behind_version l w))) (sym (headed k v) ∙ e ∙ headed l w) in
    let count : length w ≡ length (fields_of k) = lw ∙ ap (λ kind. length (fields_of kind)) (sym same.1) in
    (same.1, same_members (fields_of k) v w (codes "}") (codes "}") iv iw lv count (same.2 ∙ ap (λ kind. members_text (fields_of kind) w ++ codes "}") (sym same.1)))

-- at most 16 digits are those of their number
pub number_is : (text : List ℕ) (value : Tree) → IsNumberValue text value → length text ≤ 16 → value ≡ number_value (hex_value text)
number_is text value is few =
    let low : hex_value text < 16 ^ length text = value_low text is.0.0 in
    let power : 16 ^ length text ≤ 16 ^ 16 = pow-le-pow_right (omega arith) {i = length text} {j = 16} few in
    is.1 ∙ ap Str (printed (hex_value text) text (omega (arith, low, power)) (is.0, refl))
