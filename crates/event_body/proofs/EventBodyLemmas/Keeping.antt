-- What is true of each event that a body spells.
use Rattle.std.proofs.Common.{◌≡◌, ◌≢◌, ◌≤◌, ℕ, List, [], ◌∷◌, length, map, refl, ap, subst, Option, Some, None}
use Rattle.std.specs.Prelude.{IsSome}
use Rattle.std.proofs.lemmas.List.{length-map}
use Rattle.cesr_codes.specs.declared.prefix.Prefix.{Prefix}
use Rattle.json_tree.specs.declared.tree.Tree.{Tree}
use Rattle.json_tree.specs.declared.tree.Tree.TheVariants.{Str, List as TreeList}
use Rattle.event_body.specs.declared.body_fields.field.Field.TheVariants.{Delegator}
use Rattle.event_body.specs.BodyFields.Bodies.{AreOfForms}
use Rattle.event_body.specs.BodyFields.Forms.{key_value, digest_value, keys_value, digests_value, strings_value}
use Rattle.event_body.specs.declared.event_body.event.Event.{Event}
use Rattle.event_body.specs.declared.event_body.event.Event.TheVariants.{Icp, Rot, Ixn, Dip, Drt, Rct}
use Rattle.event_body.specs.declared.event_body.inception.Inception.{Inception}
use Rattle.event_body.specs.declared.event_body.rotation.Rotation.{Rotation}
use Rattle.event_body.specs.EventBody.Kept.{IsKept, IsKeptInception, IsKeptRotation}
use Rattle.event_body.specs.EventBody.Ranges.{IsInception, IsRotation}
use Rattle.event_body.specs.EventBody.Spelling.{delegator_values}
use Rattle.event_body.specs.EventBody.Rules.{HasFewMembers, HasWitnesses, ChangesWitnesses}
use Rattle.event_body.specs.EventBody.Judging.{SpellsEvent}

-- a list of spellings has few members where the list of what they spell has
few : {A : Type 0} (f : A → Tree) (xs : List A) → HasFewMembers (TreeList (map f xs)) → length xs ≤ 64
few f xs members = subst (λ n. n ≤ 64) (length-map xs f) (members (map f xs) refl)

no_delegator : (delegator : Option Prefix) → AreOfForms [] (delegator_values delegator) → delegator ≡ None
no_delegator None forms = refl
no_delegator (Some prefix) forms = absurd forms

some_delegator : (delegator : Option Prefix) → AreOfForms (Delegator ∷ []) (delegator_values delegator) → IsSome delegator
some_delegator None forms = absurd forms
some_delegator (Some prefix) forms = refl

kept_inception : (e : Inception) → IsInception e → keys_value e.keys ≢ TreeList [] → HasFewMembers (keys_value e.keys) → HasFewMembers (digests_value e.next)
    → HasFewMembers (keys_value e.list) → HasFewMembers (strings_value e.traits) → HasWitnesses e → IsKeptInception e
kept_inception e ranges some keys next list traits witnesses = record {
  ranges = ranges;
  some_keys = λ none. some (ap keys_value none);
  few_keys = few key_value e.keys keys;
  few_next = few digest_value e.next next;
  few_witnesses = few key_value e.list list;
  few_traits = few (λ text. Str text) e.traits traits;
  witnesses = witnesses;
}

kept_rotation : (e : Rotation) → IsRotation e → keys_value e.keys ≢ TreeList [] → HasFewMembers (keys_value e.keys) → HasFewMembers (digests_value e.next)
    → HasFewMembers (keys_value e.cuts) → HasFewMembers (keys_value e.adds) → ChangesWitnesses e → IsKeptRotation e
kept_rotation e ranges some keys next cuts adds witnesses = record {
  ranges = ranges;
  some_keys = λ none. some (ap keys_value none);
  few_keys = few key_value e.keys keys;
  few_next = few digest_value e.next next;
  few_cuts = few key_value e.cuts cuts;
  few_adds = few key_value e.adds adds;
  witnesses = witnesses;
}

pub kept : (event : Event) (bytes : List ℕ) → SpellsEvent event bytes → IsKept event
kept (Icp e) bytes spells =
    let from_keys = spells.has.few.1.1.1.1 in (
      kept_inception e spells.has.ranges spells.has.thresholds.0 from_keys.0 from_keys.1.1.0 from_keys.1.1.1.1.0 from_keys.1.1.1.1.1.0 spells.witnesses,
      no_delegator e.delegator spells.has.forms.1.1.1.1.1.1.1.1.1.1.1,
    )
kept (Dip e) bytes spells =
    let from_keys = spells.has.few.1.1.1.1 in (
      kept_inception e spells.has.ranges spells.has.thresholds.0 from_keys.0 from_keys.1.1.0 from_keys.1.1.1.1.0 from_keys.1.1.1.1.1.0 spells.witnesses,
      some_delegator e.delegator spells.has.forms.1.1.1.1.1.1.1.1.1.1.1,
    )
kept (Rot e) bytes spells =
    let from_keys = spells.has.few.1.1.1.1.1 in
    kept_rotation e spells.has.ranges spells.has.thresholds.0 from_keys.0 from_keys.1.1.0 from_keys.1.1.1.1.0 from_keys.1.1.1.1.1.0 spells.witnesses
kept (Drt e) bytes spells =
    let from_keys = spells.has.few.1.1.1.1.1 in
    kept_rotation e spells.has.ranges spells.has.thresholds.0 from_keys.0 from_keys.1.1.0 from_keys.1.1.1.1.0 from_keys.1.1.1.1.1.0 spells.witnesses
kept (Ixn e) bytes spells = spells.has.ranges
kept (Rct e) bytes spells = spells.has.ranges
