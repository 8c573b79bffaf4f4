-- The text of which a digest is made stays as it is in the event with that digest.
use Rattle.std.proofs.Common.{◌≡◌, if◌then◌else◌, ◌∷◌, length, refl, ap, ◌∙◌}
use Rattle.cesr_codes.specs.declared.digest.Digest.{Digest}
use Rattle.cesr_codes.specs.declared.prefix.Prefix.{Prefix}
use Rattle.cesr_codes.specs.declared.prefix.Prefix.TheVariants.{Basic, Said}
use Rattle.json_tree.specs.declared.tree.Tree.TheVariants.{Str}
use Rattle.said_digest.specs.Replaced.{placeholder}
use Rattle.event_body.specs.BodyFields.Bodies.{body_text}
use Rattle.event_body.specs.declared.body_fields.kind.Kind.TheVariants as kinds
use Rattle.event_body.specs.BodyFields.Forms.{prefix_value}
use Rattle.event_body.specs.declared.event_body.event.Event.{Event}
use Rattle.event_body.specs.declared.event_body.event.Event.TheVariants.{Icp, Rot, Ixn, Dip, Drt, Rct}
use Rattle.event_body.specs.EventBody.Events.{is_said}
use Rattle.event_body.specs.EventBody.Rules.{digested_text}
use Rattle.event_body.specs.EventBody.Spelling.{further_values, text_of}
use Rattle.event_body.proofs.EventBodyLemmas.Digested.{as_long}
use Rattle.event_body.specs.EventWriting.Sealed.{sealed_prefix, with_digest}

hidden_sealed : (p : Prefix) (digest : Digest) → (if is_said (sealed_prefix p digest) then Str placeholder else prefix_value (sealed_prefix p digest)) ≡ (if is_said p then Str placeholder else prefix_value p)
hidden_sealed (Basic key) digest = refl
hidden_sealed (Said other) digest = refl

pub same_digested : (digest : Digest) (event : Event) → digested_text (with_digest digest event) ≡ digested_text event
same_digested digest (Icp e) = ap (λ prefix. body_text kinds.Icp (Str placeholder ∷ prefix ∷ further_values (Icp e))) (hidden_sealed e.prefix digest)
same_digested digest (Dip e) = ap (λ prefix. body_text kinds.Dip (Str placeholder ∷ prefix ∷ further_values (Dip e))) (hidden_sealed e.prefix digest)
same_digested digest (Rot e) = refl
same_digested digest (Ixn e) = refl
same_digested digest (Drt e) = refl
same_digested digest (Rct receipt) = refl

-- the text with the digest is as long as that with placeholders
pub text_long : (digest : Digest) (event : Event) → length (text_of (with_digest digest event)) ≡ length (digested_text event)
text_long digest event = as_long (with_digest digest event) ∙ ap length (same_digested digest event)
