-- The text of which a digest is made has the places of the event's own.
use Rattle.std.proofs.Common.{◌≡◌, ℕ, ◌+◌, Bool, true, false, if◌then◌else◌, List, [], ◌∷◌, ◌++◌, length, codes, refl, sym, ap, ◌∙◌, arith, length-append}
use Rattle.cesr_codes.specs.declared.prefix.Prefix.{Prefix}
use Rattle.cesr_codes.specs.Spelling.{digest_text, prefix_text}
use Rattle.cesr_codes.proofs.Same.{length-digest_text, length-prefix_text}
use Rattle.json_tree.specs.declared.tree.Tree.{Tree}
use Rattle.json_tree.specs.declared.tree.Tree.TheVariants.{Str}
use Rattle.json_tree.specs.Spelling.{spelling}
use Rattle.said_digest.specs.Replaced.{placeholder}
use Rattle.event_body.specs.declared.body_fields.kind.Kind.{Kind}
use Rattle.event_body.specs.declared.body_fields.field.Field.{Field}
use Rattle.event_body.specs.BodyFields.Forms.{prefix_value}
use Rattle.event_body.specs.BodyFields.Maps.{fields_of}
use Rattle.event_body.specs.BodyFields.Versions.{size_text}
use Rattle.event_body.specs.BodyFields.Bodies.{kind_text, name_text, member_text, members_text, behind_version}
use Rattle.event_body.proofs.BodyFieldsLemmas.Texts.{size_of, text_long}
use Rattle.event_body.specs.declared.event_body.event.Event.{Event}
use Rattle.event_body.specs.EventBody.Events.{prefix_of, said_of, hides_prefix}
use Rattle.event_body.specs.EventBody.Rules.{digested_values, digested_text}
use Rattle.event_body.specs.EventBody.Spelling.{body_kind, further_values, values_of, text_of}

-- texts of one length stand for each other
member_long : (field : Field) (a : List ℕ) → length (member_text field (Str a)) ≡ length (name_text field) + (length a + 2)
member_long field a = omega (arith, length-append (name_text field) (spelling (Str a)), length-append a (34 ∷ []))

first_long : (fields : List Field) (a c : List ℕ) (rest : List Tree) → length a ≡ length c → length (members_text fields (Str a ∷ rest)) ≡ length (members_text fields (Str c ∷ rest))
first_long [] a c rest e = refl
first_long (field ∷ fields) a c rest e =
    omega (arith, e, length-append (member_text field (Str a)) (members_text fields rest), length-append (member_text field (Str c)) (members_text fields rest), member_long field a, member_long field c)

second_long : (fields : List Field) (t : Tree) (a c : List ℕ) (rest : List Tree) → length a ≡ length c → length (members_text fields (t ∷ Str a ∷ rest)) ≡ length (members_text fields (t ∷ Str c ∷ rest))
second_long [] t a c rest e = refl
second_long (field ∷ fields) t a c rest e =
    omega (arith, first_long fields a c rest e, length-append (member_text field t) (members_text fields (Str a ∷ rest)), length-append (member_text field t) (members_text fields (Str c ∷ rest)))

members_long : (fields : List Field) (a b c d : List ℕ) (rest : List Tree) → length a ≡ length c → length b ≡ length d → length (members_text fields (Str a ∷ Str b ∷ rest)) ≡ length (members_text fields (Str c ∷ Str d ∷ rest))
members_long fields a b c d rest first second = first_long fields a c (Str b ∷ rest) first ∙ second_long fields (Str c) b d rest second

behind_long : (kind : Kind) (vs ws : List Tree) → length (members_text (fields_of kind) vs) ≡ length (members_text (fields_of kind) ws) → length (behind_version kind vs) ≡ length (behind_version kind ws)
behind_long kind vs ws e =
    omega (
      arith,
      e,
      length-append (kind_text kind) (members_text (fields_of kind) vs ++ codes "}"),
      length-append (kind_text kind) (members_text (fields_of kind) ws ++ codes "}"),
      length-append (members_text (fields_of kind) vs) (codes "}"),
      length-append (members_text (fields_of kind) ws) (codes "}"),
    )

pub placeholder_long : length placeholder ≡ 44
unfolding placeholder
placeholder_long = refl

hidden_is : (b : Bool) (prefix : Prefix) → (if b then Str placeholder else prefix_value prefix) ≡ Str (if b then placeholder else prefix_text prefix)
hidden_is true prefix = refl
hidden_is false prefix = refl

hidden_long : (b : Bool) (prefix : Prefix) → length (if b then placeholder else prefix_text prefix) ≡ 44
hidden_long true prefix = placeholder_long
hidden_long false prefix = length-prefix_text prefix

module _ (event : Event) where
  abbrev pub hidden_text : List ℕ
  hidden_text = if hides_prefix event then placeholder else prefix_text (prefix_of event)

  pub digested : digested_values event ≡ Str placeholder ∷ Str hidden_text ∷ further_values event
  digested = ap (λ p. Str placeholder ∷ p ∷ further_values event) (hidden_is (hides_prefix event) (prefix_of event))

  -- what stands behind the version string is as long as with placeholders
  own_long : length (behind_version (body_kind event) (values_of event)) ≡ length (behind_version (body_kind event) (digested_values event))
  own_long =
      behind_long (body_kind event) (values_of event) (digested_values event)
      (members_long (fields_of (body_kind event)) (digest_text (said_of event)) (prefix_text (prefix_of event)) placeholder hidden_text (further_values event)
      (length-digest_text (said_of event) ∙ sym placeholder_long) (length-prefix_text (prefix_of event) ∙ sym (hidden_long (hides_prefix event) (prefix_of event)))
      ∙ ap (λ vs. length (members_text (fields_of (body_kind event)) vs)) (sym digested))

  pub same_size : size_of (body_kind event) (values_of event) ≡ size_of (body_kind event) (digested_values event)
  same_size = ap (λ n. size_text (24 + n)) own_long

  -- so is the whole text
  pub as_long : length (text_of event) ≡ length (digested_text event)
  as_long = text_long (body_kind event) (values_of event) ∙ ap (λ n. 24 + n) own_long ∙ sym (text_long (body_kind event) (digested_values event))
