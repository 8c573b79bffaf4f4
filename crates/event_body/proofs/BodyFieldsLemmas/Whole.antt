-- A body is one kind and one list of values.
use Rattle.std.proofs.Common.{◌≡◌, ◌⊎◌, ℕ, zero, suc, List, ◌++◌, refl, sym, ap, ◌∙◌, subst, append_assoc, codes, inl, inr, Result, Ok, Err}
use Rattle.std.specs.Prelude.{IfOk, IfErr}
use Rattle.lists.specs.KeriSpecs.Hex.{hex_value}
use Rattle.json_tree.specs.declared.tree.Tree.{Tree}
use Rattle.event_body.specs.declared.body_fields.kind.Kind.{Kind}
use Rattle.event_body.specs.declared.body_fields.fields.Fields.{Fields}
use Rattle.event_body.specs.declared.body_fields.fields_fault.FieldsFault.{FieldsFault}
use Rattle.event_body.specs.declared.body_fields.fields_fault.FieldsFault.TheVariants.{OtherSize, Ends, OutOfMemory}
use Rattle.event_body.specs.BodyFields.Maps.{fields_of}
use Rattle.event_body.specs.BodyFields.Versions.{version_text}
use Rattle.event_body.specs.BodyFields.Bodies.{kind_text, members_text, AreOfForms, IsBody, Stand}
use Rattle.event_body.specs.BodyFields.Faults.{IsFault}
use Rattle.event_body.proofs.BodyFieldsLemmas.Fronts.{same_version}
use Rattle.event_body.proofs.BodyFieldsLemmas.Heads.{same_head}
use Rattle.event_body.proofs.BodyFieldsLemmas.Members.{same_members, forms_values, all_begin}

-- the text behind the version string and the kind
abbrev behind : Kind → List Tree → List ℕ
behind kind values = members_text (fields_of kind) values ++ codes "}"

-- any number of fields stands
body_stands : (kind : Kind) (values : List Tree) (bytes : List ℕ) → IsBody kind values bytes → (n : ℕ) → Stand n bytes
body_stands kind values bytes body zero = tt
body_stands kind values bytes body (suc zero) =
    (body.size, kind_text kind ++ behind kind values, body.sized, body.text ∙ append_assoc (version_text body.size) (kind_text kind) (behind kind values))
body_stands kind values bytes body (suc (suc n)) = (body.size, behind kind values, kind, body.sized, body.text, all_begin (fields_of kind) values n body.of_forms)

pub one_body : (k l : Kind) (v w : List Tree) (bytes : List ℕ) → IsBody k v bytes → IsBody l w bytes → (k ≡ l) × (v ≡ w)
one_body k l v w bytes ours theirs =
    let same = same_head ours.size theirs.size k l (behind k v) (behind l w) ours.sized theirs.sized (sym ours.text ∙ theirs.text) in
    let one = forms_values (fields_of k) v ours.of_forms in
    let other = forms_values (fields_of k) w (subst (λ kind. AreOfForms (fields_of kind) w) (sym same.1) theirs.of_forms) in
    (same.1, same_members (fields_of k) v w (codes "}") (codes "}") one.0 other.0 one.1 other.1 (same.2 ∙ ap (λ kind. behind kind w) (sym same.1)))

-- what is a body is read, but for want of memory
pub whole : (bytes : List ℕ) (r : Result Fields FieldsFault) → IfOk r (λ fields. IsBody fields.kind fields.values bytes) → IfErr r (λ fault. IsFault bytes fault)
    → (kind : Kind) (values : List Tree) → IsBody kind values bytes → (r ≡ Ok (record { kind = kind; values = values })) ⊎ (r ≡ Err OutOfMemory)
whole bytes (Ok fields) read fault kind values body =
    let same = one_body fields.kind kind fields.values values bytes read body in
    inl (λ i. Ok (record { kind = same.0 i; values = same.1 i }))
whole bytes (Err OtherSize) read fault kind values body =
    let version = body.text ∙ append_assoc (version_text body.size) (kind_text kind) (behind kind values) in
    absurd (fault.other (ap hex_value (same_version fault.size body.size fault.rest _ fault.sized body.sized (sym fault.text ∙ version)).0 ∙ body.size_is))
whole bytes (Err (Ends n)) read fault kind values body = absurd (fault.1.1 (body_stands kind values bytes body (suc n)))
whole bytes (Err OutOfMemory) read fault kind values body = inr refl
