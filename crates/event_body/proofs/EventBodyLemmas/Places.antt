-- The digest and the prefix in a body's text, at the places 40 and 91.
use Rattle.std.proofs.Common.{◌≡◌, ℕ, zero, suc, ◌+◌, ◌≤◌, Bool, true, false, if◌then◌else◌, List, [], ◌∷◌, ◌++◌, length, take, drop, refl, sym, ap, ◌∙◌, subst, arith, codes, append_assoc, length-append, slice_index_or, IsTrue, ◌↔◌}
use Rattle.std.proofs.lemmas.List.{take_at, drop_at}
use Rattle.std.proofs.lemmas.Grind.{common_steps}
use Rattle.cesr_codes.specs.declared.digest.Digest.{Digest}
use Rattle.cesr_codes.specs.declared.digest.DigestCode.{DigestCode}
use Rattle.cesr_codes.specs.Spelling.{digest_text, prefix_text}
use Rattle.cesr_codes.proofs.Same.{length-digest_text, length-prefix_text}
use Rattle.json_tree.specs.declared.tree.Tree.{Tree}
use Rattle.json_tree.specs.declared.tree.Tree.TheVariants.{Str}
use Rattle.said_digest.specs.Digests.{digest_of, said}
use Rattle.said_digest.specs.Replaced.{placeholder, with_placeholder, replaced, LieIn}
use Rattle.event_body.specs.declared.body_fields.kind.Kind.{Kind}
use Rattle.event_body.specs.declared.body_fields.kind.Kind.TheVariants as kinds
use Rattle.event_body.specs.declared.body_fields.field.Field.{Field}
use Rattle.event_body.specs.declared.body_fields.field.Field.TheVariants.{Said, Identifier}
use Rattle.event_body.specs.BodyFields.Bodies.{head_text, members_text}
use Rattle.event_body.specs.BodyFields.Maps.{kind_name, fields_of}
use Rattle.event_body.specs.declared.event_body.event.Event.{Event}
use Rattle.event_body.specs.declared.event_body.event.Event.TheVariants.{Icp, Rot, Ixn, Dip, Drt, Rct}
use Rattle.event_body.proofs.BodyFieldsLemmas.Texts.{size_of, headed}
use Rattle.event_body.specs.EventBody.Events.{said_of, prefix_of, is_receipt, hides_prefix, places_of}
use Rattle.event_body.specs.EventBody.Spelling.{body_kind, further_values, values_of, text_of}
use Rattle.event_body.specs.EventBody.Rules.{digested_values, digested_text, IsDigested, HasSaid}
use Rattle.event_body.proofs.EventBodyLemmas.Digested.{hidden_text, digested, same_size}

-- the fields behind the first two
further : List Field → List Field
further (one ∷ other ∷ fields) = fields
further fields = []

first_two : (kind : Kind) → fields_of kind ≡ Said ∷ Identifier ∷ further (fields_of kind)
unfolding further
first_two kinds.Icp = refl
first_two kinds.Rot = refl
first_two kinds.Ixn = refl
first_two kinds.Dip = refl
first_two kinds.Drt = refl
first_two kinds.Rct = refl

name_long : (kind : Kind) → length (kind_name kind) ≡ 3
name_long kinds.Icp = refl
name_long kinds.Rot = refl
name_long kinds.Ixn = refl
name_long kinds.Dip = refl
name_long kinds.Drt = refl
name_long kinds.Rct = refl

-- a placeholder stands for a text at a place
put : (front text rest : List ℕ) (place : ℕ) → length front ≡ place → length text ≡ 44 → with_placeholder place (front ++ (text ++ rest)) ≡ front ++ (placeholder ++ rest)
unfolding with_placeholder
put front text rest place at long =
    let before : take place (front ++ (text ++ rest)) ≡ front = take_at front (text ++ rest) place at in
    let after : drop (place + 44) (front ++ (text ++ rest)) ≡ rest =
    ap (drop (place + 44)) (sym (append_assoc front text rest)) ∙ drop_at (front ++ text) rest (place + 44) (omega (arith, length-append front text, at, long)) in
    ap (λ x. x ++ (placeholder ++ drop (place + 44) (front ++ (text ++ rest)))) before ∙ ap (λ x. front ++ (placeholder ++ x)) after

module _ (size : List ℕ) (kind : Kind) (more : List Field) (rest : List Tree) (sized : length size ≡ 6) where
  abbrev text : List ℕ → List ℕ → List ℕ
  text d i = head_text size kind ++ (members_text (Said ∷ Identifier ∷ more) (Str d ∷ Str i ∷ rest) ++ codes "}")

  abbrev front : List ℕ
  front = head_text size kind ++ codes ",\"d\":\""

  abbrev behind_digest : List ℕ → List ℕ
  behind_digest i = codes "\",\"i\":\"" ++ (i ++ (codes "\"" ++ (members_text more rest ++ codes "}")))

  spread : (d i : List ℕ) → text d i ≡ front ++ (d ++ behind_digest i)
  spread d i = simp append_assoc

  front_long : length front ≡ 40
  front_long = grind (arith, common_steps, name_long kind)

  digest_replaced : (d i : List ℕ) → length d ≡ 44 → with_placeholder 40 (text d i) ≡ text placeholder i
  digest_replaced d i long = ap (with_placeholder 40) (spread d i) ∙ put front d (behind_digest i) 40 front_long long ∙ sym (spread placeholder i)

  abbrev front_of_prefix : List ℕ → List ℕ
  front_of_prefix d = front ++ (d ++ codes "\",\"i\":\"")

  spread_prefix : (d i : List ℕ) → text d i ≡ front_of_prefix d ++ (i ++ (codes "\"" ++ (members_text more rest ++ codes "}")))
  spread_prefix d i = spread d i ∙ simp append_assoc

  prefix_at : (d : List ℕ) → length d ≡ 44 → length (front_of_prefix d) ≡ 91
  prefix_at d long = omega (arith, length-append front (d ++ codes "\",\"i\":\""), length-append d (codes "\",\"i\":\""), front_long, long)

  prefix_replaced : (d i : List ℕ) → length d ≡ 44 → length i ≡ 44 → with_placeholder 91 (text d i) ≡ text d placeholder
  prefix_replaced d i d_long i_long = ap (with_placeholder 91) (spread_prefix d i) ∙ put (front_of_prefix d) i _ 91 (prefix_at d d_long) i_long ∙ sym (spread_prefix d placeholder)

  -- the digest's place alone, or both
  replaced_text : (both : Bool) (d i : List ℕ) → length d ≡ 44 → length i ≡ 44 → replaced (text d i) (if both then 40 ∷ 91 ∷ [] else 40 ∷ []) ≡ text placeholder (if both then placeholder else i)
  unfolding replaced
  replaced_text true d i d_long i_long = ap (with_placeholder 40) (prefix_replaced d i d_long i_long) ∙ digest_replaced d placeholder d_long
  replaced_text false d i d_long i_long = digest_replaced d i d_long

  enough : (d i : List ℕ) → length d ≡ 44 → length i ≡ 44 → 135 ≤ length (text d i)
  enough d i d_long i_long =
      let tail : List ℕ = codes "\"" ++ (members_text more rest ++ codes "}") in
      omega (arith, ap length (spread_prefix d i), length-append (front_of_prefix d) (i ++ tail), length-append i tail, prefix_at d d_long, i_long)

lie_in : (both : Bool) (bytes : List ℕ) → 135 ≤ length bytes → LieIn bytes (if both then 40 ∷ 91 ∷ [] else 40 ∷ [])
lie_in both bytes few zero x below = elim both as (λ b. slice_index_or (if b then 40 ∷ 91 ∷ [] else 40 ∷ []) 0 x + 44 ≤ length bytes) [ true ↦ omega (arith, few) | false ↦ omega (arith, few) ]
lie_in true bytes few (suc zero) x below = omega (arith, few)
lie_in true bytes few (suc (suc k)) x below = absurd (omega (arith, below))
lie_in false bytes few (suc k) x below = absurd (omega (arith, below))

module _ (event : Event) (bytes : List ℕ) (is : bytes ≡ text_of event) where
  abbrev kind : Kind
  kind = body_kind event

  abbrev size : List ℕ
  size = size_of kind (values_of event)

  abbrev spelled : List ℕ → List ℕ → List ℕ
  spelled = text size kind (further (fields_of kind)) (further_values event) refl

  two_values : (d i : List ℕ) → head_text size kind ++ (members_text (fields_of kind) (Str d ∷ Str i ∷ further_values event) ++ codes "}") ≡ spelled d i
  two_values d i = ap (λ f. head_text size kind ++ (members_text f (Str d ∷ Str i ∷ further_values event) ++ codes "}")) (first_two kind)

  abbrev d : List ℕ
  d = digest_text (said_of event)

  abbrev i : List ℕ
  i = prefix_text (prefix_of event)

  d_long : length d ≡ 44
  d_long = length-digest_text (said_of event)

  i_long : length i ≡ 44
  i_long = length-prefix_text (prefix_of event)

  bytes_are : bytes ≡ spelled d i
  bytes_are = is ∙ headed kind (values_of event) ∙ two_values d i

  -- the places lie in the body
  pub places_lie_in : LieIn bytes (places_of event)
  places_lie_in = lie_in (hides_prefix event) bytes (omega (arith, ap length bytes_are, enough size kind (further (fields_of kind)) (further_values event) refl d i d_long i_long))

  digested_is : spelled placeholder (hidden_text event) ≡ digested_text event
  digested_is =
      sym (two_values placeholder (hidden_text event))
      ∙ ap (λ vs. head_text size kind ++ (members_text (fields_of kind) vs ++ codes "}")) (sym (digested event))
      ∙ ap (λ s. head_text s kind ++ (members_text (fields_of kind) (digested_values event) ++ codes "}")) (same_size event)
      ∙ sym (headed kind (digested_values event))

  -- the digest with the places replaced is that of the text with placeholders
  said_at_places : (code : DigestCode) → said code bytes (places_of event) ≡ digest_of code (digested_text event)
  unfolding said
  said_at_places code = ap (digest_of code)
      (ap (λ b. replaced b (places_of event)) bytes_are
      ∙ replaced_text size kind (further (fields_of kind)) (further_values event) refl (hides_prefix event) d i d_long i_long
      ∙ digested_is)

-- the rule is that of the digest, but for a receipt
said_rule : (event : Event) (r : Bool) → is_receipt event ≡ false → IsTrue r ↔ IsDigested event → IsTrue r ↔ HasSaid event
said_rule (Icp e) r none rule = rule
said_rule (Rot e) r none rule = rule
said_rule (Ixn e) r none rule = rule
said_rule (Dip e) r none rule = rule
said_rule (Drt e) r none rule = rule
said_rule (Rct e) r none rule = cc none

-- a test of the digest with the places replaced is one of the rule
pub tests_said : (event : Event) (bytes : List ℕ) (digest : Digest) (places : List ℕ) (r : Bool) → bytes ≡ text_of event → is_receipt event ≡ false
    → digest ≡ said_of event → places ≡ places_of event → IsTrue r ↔ (digest ≡ said digest.code bytes places) → IsTrue r ↔ HasSaid event
tests_said event bytes digest places r is none digest_is places_are tests =
    let placed = said_at_places event bytes is (said_of event).code in
    let rule = subst (λ d. IsTrue r ↔ (d ≡ said d.code bytes (places_of event))) digest_is (subst (λ p. IsTrue r ↔ (digest ≡ said digest.code bytes p)) places_are tests) in
    said_rule event r none ((λ yes. rule.0 yes ∙ placed), (λ same. rule.1 (same ∙ sym placed)))
