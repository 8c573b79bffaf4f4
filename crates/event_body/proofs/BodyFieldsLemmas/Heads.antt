-- The version string and the kind.
use Rattle.std.proofs.Common.{◌≡◌, ◌≢◌, ℕ, suc, ◌+◌, ◌==◌, if◌then◌else◌, List, ◌++◌, length, slice_index, refl, sym, ap, ◌∙◌, subst, arith, append_assoc}
use Rattle.std.proofs.lemmas.List.{append_cancel_left}
use Rattle.lists.specs.KeriSpecs.Hex.{hex_value}
use Rattle.event_body.specs.declared.body_fields.kind.Kind.{Kind}
use Rattle.event_body.specs.declared.body_fields.kind.Kind.TheVariants.{Icp, Rot, Ixn, Dip, Drt, Rct}
use Rattle.event_body.specs.declared.body_fields.fields_fault.FieldsFault.{FieldsFault}
use Rattle.event_body.specs.declared.body_fields.fields_fault.FieldsFault.TheVariants.{OtherSize, Ends, OutOfMemory}
use Rattle.event_body.specs.BodyFields.Maps.{fields_of}
use Rattle.event_body.specs.BodyFields.Versions.{IsSize, version_text, HasOtherSize}
use Rattle.event_body.specs.BodyFields.Bodies.{kind_text, head_text, Begins}
use Rattle.event_body.specs.BodyFields.Faults.{IsFault, StopsAt}
use Rattle.event_body.proofs.BodyFieldsLemmas.Fronts.{same_version}

-- the kind that a text names, by two of its letters
abbrev named : List ℕ → Kind
named text = if slice_index text 6 == 105 then (if slice_index text 7 == 99 then Icp else Ixn) else (if slice_index text 6 == 114 then (if slice_index text 7 == 111 then Rot else Rct) else (if slice_index text 7 == 105 then Dip else Drt))

named_is : (kind : Kind) (rest : List ℕ) → named (kind_text kind ++ rest) ≡ kind
named_is Icp rest = refl
named_is Rot rest = refl
named_is Ixn rest = refl
named_is Dip rest = refl
named_is Drt rest = refl
named_is Rct rest = refl

same_kind : (k l : Kind) (r s : List ℕ) → kind_text k ++ r ≡ kind_text l ++ s → (k ≡ l) × (r ≡ s)
same_kind k l r s e =
    let same : k ≡ l = sym (named_is k r) ∙ ap named e ∙ named_is l s in
    (same, append_cancel_left (kind_text l) r s (ap (λ kind. kind_text kind ++ r) (sym same) ∙ e))

-- the version string and the kind at the front are one
pub same_head : (a b : List ℕ) (k l : Kind) (r s : List ℕ) → IsSize a → IsSize b → head_text a k ++ r ≡ head_text b l ++ s → (a ≡ b) × (k ≡ l) × (r ≡ s)
same_head a b k l r s ia ib e =
    let size = same_version a b (kind_text k ++ r) (kind_text l ++ s) ia ib (sym (append_assoc (version_text a) (kind_text k) r) ∙ e ∙ append_assoc (version_text b) (kind_text l) s) in
    let kind = same_kind k l r s size.1 in
    (size.0, kind.0, kind.1)

-- where no version string stands, no field does
pub none_stands : (bytes : List ℕ) → ((size rest : List ℕ) → IsSize size → bytes ≢ version_text size ++ rest) → IsFault bytes (Ends 0)
none_stands bytes none = (λ other. none other.size other.rest other.sized other.text, (tt, λ stand. none stand.0 stand.1 stand.2 stand.3))

module _ (bytes size rest : List ℕ) (sized : IsSize size) (at : bytes ≡ version_text size ++ rest) (size_is : hex_value size ≡ length bytes) where
  no_other : ¬ HasOtherSize bytes
  no_other other = other.other (ap hex_value (same_version other.size size other.rest rest other.sized sized (sym other.text ∙ at)).0 ∙ size_is)

  -- where no kind stands behind it, the version string alone does
  pub one_stands : ((kind : Kind) (more : List ℕ) → rest ≢ kind_text kind ++ more) → IsFault bytes (Ends 1)
  one_stands none = (
    no_other,
    (
      (size, rest, sized, at),
      λ stand.
          let behind = stand.4 ∙ append_assoc (version_text stand.0) (kind_text stand.2) stand.1 in
          none stand.2 stand.1 (same_version size stand.0 rest (kind_text stand.2 ++ stand.1) sized stand.3 (sym at ∙ behind)).1,
    ),
  )

  -- where further fields stand and not one more, these and the first two stand
  more_stand : (kind : Kind) (behind : List ℕ) (n further : ℕ) → rest ≡ kind_text kind ++ behind → n ≡ 2 + further → Begins further (fields_of kind) behind → ¬ Begins (suc further) (fields_of kind) behind
      → IsFault bytes (Ends n)
  more_stand kind behind n further next count stand none =
      let front : bytes ≡ head_text size kind ++ behind = at ∙ ap (λ x. version_text size ++ x) next ∙ sym (append_assoc (version_text size) (kind_text kind) behind) in
      let counted : n ≡ suc (suc further) = omega (arith, count) in
      rw counted (
        no_other,
        (
          (size, behind, kind, sized, front, stand),
          λ more.
              let same = same_head more.0 size more.2 kind more.1 behind more.3 sized (sym more.4 ∙ front) in
              none (subst (λ k. Begins (suc further) (fields_of k) behind) same.1 (subst (Begins (suc further) (fields_of more.2)) same.2 more.5)),
        ),
      )

  pub first_fault : (kind : Kind) (behind : List ℕ) (fault : FieldsFault) → rest ≡ kind_text kind ++ behind → StopsAt kind behind fault → IsFault bytes fault
  first_fault kind behind OtherSize next stops = absurd stops
  first_fault kind behind (Ends n) next stops = more_stand kind behind n stops.0 next stops.1 stops.2 stops.3
  first_fault kind behind OutOfMemory next stops = tt
