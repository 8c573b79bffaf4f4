-- What is read of an event's text is that event.
use Rattle.std.proofs.Common.{◌≡◌, ℕ, ◌≤◌, Result, Ok, Err, List, length, refl, sym, subst, ◌∙◌, arith, Option}
use Rattle.std.specs.Prelude.{IfNone, IfSome, IfOk, IfErr}
use Rattle.std.specs.Result.{result_err}
use Rattle.sith.specs.declared.threshold.Threshold.{Threshold}
use Rattle.sith.specs.OwnValues.{HasOwnValue}
use Rattle.sith.specs.Rules.{IsReadFor}
use Rattle.sith.specs.Thresholds.{Spells, threshold_value}
use Rattle.event_body.specs.BodyFields.Maps.{fields_of}
use Rattle.event_body.proofs.BodyFieldsLemmas.Members.{forms_values}
use Rattle.event_body.proofs.BodyFieldsLemmas.Texts.{same_text}
use Rattle.event_body.specs.declared.event_body.event.Event.{Event}
use Rattle.event_body.specs.declared.event_body.event.Event.TheVariants.{Icp, Rot, Dip, Drt}
use Rattle.event_body.specs.declared.event_body.body_fault.ReadBody.{ReadBody}
use Rattle.event_body.specs.declared.event_body.body_fault.ReadBody.TheVariants.{Fault, OutOfMemory}
use Rattle.event_body.specs.EventBody.Typed.{IsTyped}
use Rattle.event_body.specs.EventBody.Judging.{HasEvent, SpellsEvent, IsFirstFault, Judges}
use Rattle.event_body.specs.EventBody.Ranges.{AreInRange}
use Rattle.event_body.specs.EventBody.Spelling.{body_kind, values_of, text_of}
use Rattle.event_body.proofs.EventBodyLemmas.Parts.{Matches, MatchThresholds, same_event}
use Rattle.event_body.proofs.EventBodyLemmas.Whole.{no_fault}
use Rattle.event_body.specs.EventWriting.Faults.{IsFaultOf, IsLengthFault}
use Rattle.event_body.specs.EventWriting.Writable.{IsWritable, HasOwnThresholds}
use Rattle.event_body.proofs.EventWritingLemmas.JsonValues.{values_are, values_long}

matches : (t u : Threshold) (keys : ℕ) → Spells t (threshold_value t) → IsReadFor t keys → HasOwnValue u → Matches t u
matches t u keys spells read own e = own.one t keys (subst (Spells t) e spells) read

own_matches : (e f : Event) → AreInRange e → HasOwnThresholds f → MatchThresholds e f
own_matches (Icp e) (Icp f) r own = (matches e.kt f.kt _ r.kt_spelled r.kt_read own.0, matches e.nt f.nt _ r.nt_spelled r.nt_read own.1)
own_matches (Dip e) (Dip f) r own = (matches e.kt f.kt _ r.kt_spelled r.kt_read own.0, matches e.nt f.nt _ r.nt_spelled r.nt_read own.1)
own_matches (Rot e) (Rot f) r own = (matches e.kt f.kt _ r.kt_spelled r.kt_read own.0, matches e.nt f.nt _ r.nt_spelled r.nt_read own.1)
own_matches (Drt e) (Drt f) r own = (matches e.kt f.kt _ r.kt_spelled r.kt_read own.0, matches e.nt f.nt _ r.nt_spelled r.nt_read own.1)
own_matches _ _ r own = tt

module _ (f : Event) (held : IsTyped f) (own : HasOwnThresholds f) (writable : IsWritable f) where
  -- an event whose body has this event's text is this event
  pub event_again : (e : Event) → HasEvent e (text_of f) → e ≡ f
  event_again e has =
      let theirs = forms_values (fields_of (body_kind e)) (values_of e) has.forms in
      let same = same_text (body_kind f) (body_kind e) (values_of f) (values_of e) (values_are f held own writable) theirs.0 (values_long f writable) theirs.1 has.text in
      same_event e f (sym same.0) has.ranges held (own_matches e f has.ranges own) (sym same.1)

  module _ (text : List ℕ) (is : text ≡ text_of f) where
    spelled : (r : Result Event ReadBody) → Judges text r → IfNone (result_err r) (SpellsEvent f text × (length text ≤ 65535))
    spelled (Ok e) judged = (subst (λ x. SpellsEvent x text) (event_again e (subst (HasEvent e) is judged.1.has)) judged.1, judged.0)
    spelled (Err fault) judged = tt

    faulty : (r : Result Event ReadBody) → Judges text r → IfSome (result_err r) (λ fault. IsFaultOf f fault)
    faulty (Ok e) judged = tt
    faulty (Err (Fault fault)) judged = subst (λ t. IsFirstFault t fault) is judged
    faulty (Err OutOfMemory) judged = tt

    module _ (found : Option ReadBody) (r : Result Event ReadBody) (found_is : found ≡ result_err r) (judged : Judges text r) where
      -- where no fault is found, the text spells the event
      pub spelled_where_none : IfNone found (SpellsEvent f text × (length text ≤ 65535))
      spelled_where_none = subst (λ o. IfNone o (SpellsEvent f text × (length text ≤ 65535))) (sym found_is) (spelled r judged)

      -- a fault that is found is the first of the event's text
      pub faulty_where_some : IfSome found (λ fault. IsFaultOf f fault)
      faulty_where_some = subst (λ o. IfSome o (λ fault. IsFaultOf f fault)) (sym found_is) (faulty r judged)

-- a text that is as long as another one is as large
pub as_large : (text other : List ℕ) (fault : ReadBody) → length text ≡ length other → IsLengthFault other fault → IsLengthFault text fault
as_large text other (Fault fault) long large = (large.0, omega (arith, long, large.1))
as_large text other OutOfMemory long large = tt

-- a text that is too large has no other fault
pub too_large : (event : Event) (text : List ℕ) (fault : ReadBody) → length (text_of event) ≡ length text → IsLengthFault text fault → IsFaultOf event fault
too_large event text (Fault fault) long large = subst (IsFirstFault (text_of event)) (sym large.0) (omega (arith, long, large.1))
too_large event text OutOfMemory long large = tt

module _ (event : Event) (bytes : List ℕ) (spells : SpellsEvent event bytes) (few : length bytes ≤ 65535) where
  -- the text of an event that a body spells has no fault
  pub no_other : (fault : ReadBody) → IsFaultOf event fault → fault ≡ OutOfMemory
  no_other (Fault fault) is = absurd (no_fault event bytes fault spells few (subst (λ t. IsFirstFault t fault) (sym spells.has.text) is))
  no_other OutOfMemory is = refl

  pub answered : {T : Type 0} (f : T → List ℕ) (r : Result T ReadBody) → IfOk r (λ text. f text ≡ text_of event) → IfErr r (λ fault. IsFaultOf event fault) → IfOk r (λ text. f text ≡ bytes) × IfErr r (λ fault. fault ≡ OutOfMemory)
  answered f (Ok text) is fault = (is ∙ sym spells.has.text, tt)
  answered f (Err fault) is faulty = (tt, no_other fault faulty)
