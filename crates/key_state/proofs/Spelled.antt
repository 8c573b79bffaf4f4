-- What bodies spell is kept in order.
use Rattle.std.proofs.Common.{◌≡◌, ℕ, true, false, List, [], ◌∷◌, refl, sym, inl, inr}
use Rattle.std.specs.Prelude.{Contains}
use Rattle.std.proofs.lemmas.Bool.{cases_Bool}
use Rattle.std.proofs.lemmas.Map.Views.{Contains-from_any}
use Rattle.event_body.specs.BodyFields.Forms.{AreFixed}
use Rattle.cesr_codes.specs.declared.key.Key.{Key}
use Rattle.event_body.specs.declared.event_body.event.Event.{Event}
use Rattle.event_body.specs.declared.event_body.event.Event.TheVariants.{Icp, Rot, Ixn, Dip, Drt, Rct}
use Rattle.event_body.specs.declared.event_body.inception.Inception.{Inception}
use Rattle.event_body.specs.declared.event_body.rotation.Rotation.{Rotation}
use Rattle.event_body.specs.EventBody.Judging.{SpellsEvent}
use Rattle.event_body.specs.EventBody.Kept as bodies
use Rattle.event_body.specs.EventBody.Rules.{AreDistinct}
use Rattle.event_body.proofs.EventBodyLemmas.Keeping.{kept}
use Rattle.key_state.specs.Kept.{IsKept, IsKeptInception, IsKeptRotation}
use Rattle.key_state.specs.Same.{has_key, are_witnesses}
use Rattle.key_state.proofs.Same.{same_key_is}

-- a key that isn't in the list is told not to be
not_in : (keys : List Key) (key : Key) → ¬ Contains keys key → has_key keys key ≡ false
not_in keys key outside = elim (cases_Bool (has_key keys key)) [
  | inr h ↦ h
  | inl h ↦ absurd (outside (Contains-from_any (λ k l same. sym (same_key_is l k same)) key keys h))
]

-- keys that can't be rotated, none of them twice, are witnesses
witnesses : (keys : List Key) → AreFixed keys → AreDistinct keys → are_witnesses keys ≡ true
witnesses [] fixed distinct = refl
witnesses (key ∷ keys) fixed distinct =
    let outside = not_in keys key distinct.0 in
    let later = witnesses keys fixed.1 distinct.1 in
    rw (outside, fixed.0, later) refl

of_inception : (e : Inception) → bodies.IsKeptInception e → IsKeptInception e
of_inception e k = record {
  kt_read = k.ranges.kt_read;
  nt_read = k.ranges.nt_read;
  few_keys = k.few_keys;
  few_next = k.few_next;
  few_witnesses = k.few_witnesses;
  witnesses = witnesses e.list k.ranges.list_fixed k.witnesses.0;
}

of_rotation : (e : Rotation) → bodies.IsKeptRotation e → IsKeptRotation e
of_rotation e k = record {
  sn_held = k.ranges.sn_held;
  kt_read = k.ranges.kt_read;
  nt_read = k.ranges.nt_read;
  few_keys = k.few_keys;
  few_next = k.few_next;
  few_cuts = k.few_cuts;
  few_adds = k.few_adds;
  cuts = witnesses e.cuts k.ranges.cuts_fixed k.witnesses.0;
  adds = witnesses e.adds k.ranges.adds_fixed k.witnesses.1;
}

pub spelled_kept : (event : Event) (bytes : List ℕ) → SpellsEvent event bytes → IsKept event
spelled_kept (Icp e) bytes s = of_inception e (kept (Icp e) bytes s).0
spelled_kept (Dip e) bytes s = of_inception e (kept (Dip e) bytes s).0
spelled_kept (Rot e) bytes s = of_rotation e (kept (Rot e) bytes s)
spelled_kept (Drt e) bytes s = of_rotation e (kept (Drt e) bytes s)
spelled_kept (Ixn e) bytes s = (kept (Ixn e) bytes s).sn_held
spelled_kept (Rct e) bytes s = (kept (Rct e) bytes s).sn_held
