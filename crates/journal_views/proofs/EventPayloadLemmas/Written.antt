-- What is written as a payload is read again.
use Rattle.std.proofs.Common.{◌≡◌, ℕ, zero, suc, ◌≤◌, ◌<◌, ◌^◌, true, false, List, [], ◌∷◌, ◌++◌, length, take, drop, All, codes, refl, sym, ap, ◌∙◌, arith, subst, append_assoc, length-take}
use Rattle.std.specs.Simd.{first_chunks}
use Rattle.std.specs.Slice.Iter.{chunk_count}
use Rattle.std.proofs.lemmas.List.{drop_at, take_at}
use Rattle.std.proofs.lemmas.List.Elements.{All-cons, All-drop, All-nil, All-take}
use Rattle.lists.specs.KeriSpecs.Hex.{hex_value}
use Rattle.json_tree.specs.declared.tree.Tree.{Tree}
use Rattle.event_body.specs.BodyFields.Bodies.{IsBody, kind_text, members_text}
use Rattle.event_body.specs.BodyFields.Maps.{fields_of}
use Rattle.event_body.specs.BodyFields.Versions.{IsSize, version_text}
use Rattle.event_body.specs.declared.body_fields.kind.Kind.{Kind}
use Rattle.event_body.proofs.BodyFieldsLemmas.Texts.{is_body}
use Rattle.cesr_codes.specs.Indexed.{IsIndexed}
use Rattle.cesr_codes.specs.declared.indexed_sig.IndexedSig.{IndexedSig}
use Rattle.cesr_stream.specs.Front.{front, has_version, size_of}
use Rattle.cesr_stream.specs.Parts.{whole}
use Rattle.cesr_stream.specs.Written.{IsWritable}
use Rattle.cesr_stream.specs.declared.item.Item.TheVariants.{Body as BodyItem}
use Rattle.cesr_stream.proofs.WrittenItems.{written_front}
use Rattle.event_body.specs.EventBody.Judging.{HasEvent}
use Rattle.event_body.specs.EventBody.Spelling.{body_kind, text_of, values_of}
use Rattle.event_body.specs.declared.event_body.event.Event.{Event}
use Rattle.journal_views.specs.EventPayload.Payloads.{BeginsWithBody, IsPayloadText, are_groups, front_with, groups_text, parts_of, payload_of, text_in}
use Rattle.journal_views.proofs.EventPayloadLemmas.Groups.{groups_enough, groups_read}

-- a version string at the front
version_there : (size rest : List ℕ) → IsSize size → (has_version (version_text size ++ rest) ≡ true) × (size_of (version_text size ++ rest) ≡ hex_value size)
version_there (a ∷ b ∷ c ∷ d ∷ e ∷ f ∷ []) rest sized = let hex = sized.1 in (rw hex refl, refl)
version_there [] rest sized = absurd (omega (arith, sized.0))
version_there (a ∷ []) rest sized = absurd (omega (arith, sized.0))
version_there (a ∷ b ∷ []) rest sized = absurd (omega (arith, sized.0))
version_there (a ∷ b ∷ c ∷ []) rest sized = absurd (omega (arith, sized.0))
version_there (a ∷ b ∷ c ∷ d ∷ []) rest sized = absurd (omega (arith, sized.0))
version_there (a ∷ b ∷ c ∷ d ∷ e ∷ []) rest sized = absurd (omega (arith, sized.0))
version_there (a ∷ b ∷ c ∷ d ∷ e ∷ f ∷ g ∷ more) rest sized = absurd (omega (arith, sized.0))

-- a body says its own size
body_writable : (kind : Kind) (values : List Tree) (bytes : List ℕ) → IsBody kind values bytes → IsWritable (BodyItem bytes)
body_writable kind values bytes body =
    let rest : List ℕ = kind_text kind ++ (members_text (fields_of kind) values ++ codes "}") in
    let parts : bytes ≡ version_text body.size ++ rest = body.text ∙ append_assoc (version_text body.size) (kind_text kind) (members_text (fields_of kind) values ++ codes "}") in
    let version = version_there body.size rest body.sized in
    (ap has_version parts ∙ version.0, ap size_of parts ∙ version.1 ∙ body.size_is)

-- WRITABLE: an event's body is of the stream's form
pub event_writable : (event : Event) (bytes : List ℕ) → HasEvent event bytes → IsWritable (BodyItem bytes)
event_writable event bytes has = subst (λ text. IsWritable (BodyItem text)) (sym has.text) (body_writable (body_kind event) (values_of event) (text_of event)
    (is_body (body_kind event) (values_of event) has.forms (subst (λ text. length text < 2 ^ 24) has.text has.sized)))

-- TEXT: the body of a payload is its text
pub text_is : (payload body : List ℕ) (groups : List (List IndexedSig)) → IsPayloadText payload body groups → text_in payload ≡ body
unfolding text_in
text_is payload body groups is =
    let more : List ℕ = groups_text groups in
    let judged : front 65535 false (body ++ more) ≡ whole (length body) = (written_front 65535 false (BodyItem body) more tt is.form is.few).0 in
    let behind : drop (length body) (body ++ more) ≡ more = drop_at body more (length body) refl in
    let read : are_groups (length (drop (length body) (body ++ more))) (drop (length body) (body ++ more)) ≡ true
    = ap (λ bytes. are_groups (length bytes) bytes) behind ∙ groups_read (length more) groups is.counted is.raw (groups_enough groups) in
    ap text_in is.text
    ∙ ap (front_with (body ++ more)) judged
    ∙ rw read (take_at body more (length body) refl)

-- parts of signatures are counted by two digits
parts_counted : (k : ℕ) (sigs : List IndexedSig) → All (λ part. length part ≤ 4095) (first_chunks 4095 k sigs)
parts_counted zero sigs = All-nil (λ (part : List IndexedSig). length part ≤ 4095)
parts_counted (suc k) sigs = All-cons (λ (part : List IndexedSig). length part ≤ 4095) (take 4095 sigs) (first_chunks 4095 k (drop 4095 sigs)) (omega (arith, length-take 4095 sigs)) (parts_counted k (drop 4095 sigs))

parts_raw : (k : ℕ) (sigs : List IndexedSig) → All IsIndexed sigs → All (All IsIndexed) (first_chunks 4095 k sigs)
parts_raw zero sigs raw = All-nil (All IsIndexed)
parts_raw (suc k) sigs raw = All-cons (All IsIndexed) (take 4095 sigs) (first_chunks 4095 k (drop 4095 sigs)) (All-take IsIndexed 4095 sigs raw) (parts_raw k (drop 4095 sigs) (All-drop IsIndexed 4095 sigs raw))

-- a payload is a body with groups behind it
pub payload_is : (event : Event) (bytes : List ℕ) (sigs : List IndexedSig) → HasEvent event bytes → length bytes ≤ 65535 → All IsIndexed sigs
    → IsPayloadText (payload_of bytes sigs) bytes (parts_of sigs)
payload_is event bytes sigs has few raw = record {
  form = event_writable event bytes has;
  few = few;
  counted = parts_counted (chunk_count (length sigs) 4095) sigs;
  raw = parts_raw (chunk_count (length sigs) 4095) sigs raw;
  text = refl;
}

-- READ AGAIN: the text of a payload of an event is its body
pub read_again : (event : Event) (bytes : List ℕ) (sigs : List IndexedSig) → HasEvent event bytes → length bytes ≤ 65535 → All IsIndexed sigs → text_in (payload_of bytes sigs) ≡ bytes
read_again event bytes sigs has few raw = text_is (payload_of bytes sigs) bytes (parts_of sigs) (payload_is event bytes sigs has few raw)

-- it begins with the body, whatever follows
pub begins_with : (event : Event) (bytes rest : List ℕ) → HasEvent event bytes → BeginsWithBody (bytes ++ rest)
begins_with event bytes rest has = record { body = bytes; rest = rest; form = event_writable event bytes has; parted = refl }

-- no event spells no bytes
pub some_bytes : (event : Event) (bytes : List ℕ) → HasEvent event bytes → bytes ≡ [] → ⊥
some_bytes event bytes has none = cc (ap has_version none, (event_writable event bytes has).0)
