-- The text of a receipt's body: how long it is, and that it spells the receipt.
use Rattle.std.proofs.Common.{◌≡◌, ℕ, ◌+◌, ◌≤◌, false, List, [], ◌∷◌, ◌++◌, length, codes, refl, subst, ◌∙◌, arith, length-append}
use Rattle.std.specs.Fmt.{digits}
use Rattle.cesr_codes.specs.declared.digest.Digest.{Digest}
use Rattle.cesr_codes.specs.declared.prefix.Prefix.{Prefix}
use Rattle.cesr_codes.specs.Spelling.{digest_text, prefix_text}
use Rattle.cesr_codes.proofs.Basic.{length-prefix_text}
use Rattle.cesr_codes.proofs.Same.{length-digest_text}
use Rattle.json_tree.specs.declared.tree.Tree.{Tree}
use Rattle.json_tree.specs.declared.tree.Tree.TheVariants.{Str}
use Rattle.json_tree.specs.Spelling.{spelling}
use Rattle.sith.proofs.Numerals.{hex_is}
use Rattle.sith.proofs.OneThreshold.{text_injective}
use Rattle.event_body.specs.declared.body_fields.field.Field.{Field}
use Rattle.event_body.specs.declared.body_fields.field.Field.TheVariants as fields
use Rattle.event_body.specs.declared.body_fields.kind.Kind.TheVariants as kinds
use Rattle.event_body.specs.BodyFields.Bodies.{kind_text, name_text, member_text, members_text}
use Rattle.event_body.specs.BodyFields.Forms.{digest_value, prefix_value, number_value}
use Rattle.event_body.specs.BodyFields.Maps.{fields_of}
use Rattle.event_body.proofs.BodyFieldsLemmas.Texts.{text_long}
use Rattle.event_backing.proofs.Hex.{few_digits}
use Rattle.event_body.specs.declared.event_body.event.Event.TheVariants.{Rct}
use Rattle.event_body.specs.declared.event_body.receipt_body.ReceiptBody.{ReceiptBody}
use Rattle.event_body.specs.EventBody.Typed.{IsTypedReceipt}
use Rattle.event_body.specs.EventBody.Judging.{HasEvent, SpellsEvent}
use Rattle.event_body.specs.EventBody.Spelling.{text_of, values_of}

-- a string under a name
string_long : (field : Field) (text : List ℕ) → length (member_text field (Str text)) ≡ length (name_text field) + (length text + 2)
string_long field text = omega (arith, length-append (name_text field) (spelling (Str text)), length-append text (34 ∷ []))

-- a member and those behind it
more : (field : Field) (rest : List Field) (value : Tree) (values : List Tree) (n m : ℕ) → length (member_text field value) ≡ n
    → length (members_text rest values) ≡ m → length (members_text (field ∷ rest) (value ∷ values)) ≡ n + m
more field rest value values n m first others = omega (arith, length-append (member_text field value) (members_text rest values), first, others)

digest_long : (digest : Digest) → length (member_text fields.Said (digest_value digest)) ≡ 51
digest_long digest = string_long fields.Said (digest_text digest) ∙ omega (arith, length-digest_text digest)

prefix_long : (prefix : Prefix) → length (member_text fields.Identifier (prefix_value prefix)) ≡ 51
prefix_long prefix = string_long fields.Identifier (prefix_text prefix) ∙ omega (arith, length-prefix_text prefix)

module _ (r : ReceiptBody) where
  members_long : length (members_text (fields_of kinds.Rct) (values_of (Rct r))) ≡ 109 + length (digits 16 false r.sn)
  members_long =
      more fields.Said (fields.Identifier ∷ fields.Any ∷ []) (digest_value r.said) (prefix_value r.prefix ∷ number_value r.sn ∷ []) 51 _ (digest_long r.said)
      (more fields.Identifier (fields.Any ∷ []) (prefix_value r.prefix) (number_value r.sn ∷ []) 51 _ (prefix_long r.prefix)
      (more fields.Any [] (number_value r.sn) [] (7 + length (digits 16 false r.sn)) 0 (string_long fields.Any (digits 16 false r.sn) ∙ omega arith) refl))
      ∙ omega arith

  -- the body has 144 bytes besides the digits of the number
  pub receipt_long : length (text_of (Rct r)) ≡ 144 + length (digits 16 false r.sn)
  receipt_long =
      text_long kinds.Rct (values_of (Rct r))
      ∙ omega (
        arith,
        length-append (kind_text kinds.Rct) (members_text (fields_of kinds.Rct) (values_of (Rct r)) ++ codes "}"),
        length-append (members_text (fields_of kinds.Rct) (values_of (Rct r))) (codes "}"),
        members_long,
      )

  module _ (held : IsTypedReceipt r) where
    few : (ds : List ℕ) → number_value r.sn ≡ Str ds → length ds ≤ 16
    few ds e =
        let same : digits 16 false r.sn ≡ ds = text_injective (digits 16 false r.sn) ds e in
        subst (λ t. length t ≤ 16) same (few_digits r.sn (digits 16 false r.sn) (hex_is r.sn held.sn) held.sn)

    pub receipt_few : length (text_of (Rct r)) ≤ 160
    receipt_few = omega (arith, receipt_long, few (digits 16 false r.sn) refl)

    has : HasEvent (Rct r) (text_of (Rct r))
    has = record {
      text = refl;
      sized = omega (arith, receipt_few);
      ranges = record { said_held = held.said; prefix_held = held.prefix; sn_held = held.sn };
      forms = ((r.said, held.said, refl), ((r.prefix, held.prefix, refl), ((digits 16 false r.sn, ((hex_is r.sn held.sn).0, refl)), tt)));
      few = (tt, (tt, (tt, tt)));
      short = (tt, (tt, ((λ ds e hex. few ds e), tt)));
      thresholds = tt;
    }

    -- and spells the receipt
    pub receipt_spelled : SpellsEvent (Rct r) (text_of (Rct r))
    receipt_spelled = record { has = has; witnesses = tt; prefix = tt; said = tt }
