-- The values of an event are strings and lists of JSON, as many as its kind has fields.
use Rattle.std.proofs.Common.{◌≡◌, ℕ, ◌^◌, ◌<◌, Bool, true, false, if◌then◌else◌, List, [], ◌∷◌, length, map, refl, arith, inl, inr, Option, Some, None}
use Rattle.std.specs.Prelude.{IsSome}
use Rattle.std.specs.List.{AllByRecursion}
use Rattle.std.specs.Fmt.{digits}
use Rattle.cesr_codes.specs.declared.digest.Digest.{Digest}
use Rattle.cesr_codes.specs.declared.key.Key.{Key}
use Rattle.cesr_codes.specs.declared.prefix.Prefix.{Prefix}
use Rattle.cesr_codes.specs.Spelling.{IsDigest, IsKey}
use Rattle.json_tree.specs.declared.tree.Tree.{Tree}
use Rattle.json_tree.specs.declared.tree.Tree.TheVariants.{Str, List as TreeList}
use Rattle.json_tree.specs.Spelling.{IsJson}
use Rattle.json_tree.specs.Strings.{IsString}
use Rattle.json_tree.proofs.Trees.{IsJson-from_list}
use Rattle.said_digest.specs.Replaced.{placeholder}
use Rattle.sith.specs.declared.threshold.Threshold.{Threshold}
use Rattle.sith.specs.OwnValues.{HasOwnValue}
use Rattle.sith.specs.Thresholds.{threshold_value}
use Rattle.sith.proofs.Numerals.{hex_is}
use Rattle.sith.proofs.Plain.{number_string, plain_string}
use Rattle.event_body.specs.BodyFields.Forms.{digest_value, key_value, prefix_value, number_value, keys_value, digests_value, strings_value}
use Rattle.event_body.specs.BodyFields.Maps.{fields_of}
use Rattle.event_body.proofs.BodyFieldsLemmas.Depths.{IsValue}
use Rattle.event_body.proofs.BodyFieldsLemmas.Plain.{digest_string, key_string, prefix_string}
use Rattle.event_body.specs.declared.event_body.event.Event.{Event}
use Rattle.event_body.specs.declared.event_body.event.Event.TheVariants.{Icp, Rot, Ixn, Dip, Drt, Rct}
use Rattle.event_body.specs.declared.event_body.inception.Inception.{Inception}
use Rattle.event_body.specs.declared.event_body.rotation.Rotation.{Rotation}
use Rattle.event_body.specs.EventBody.Events.{prefix_of, said_of, hides_prefix}
use Rattle.event_body.specs.EventBody.Typed.{IsTyped, IsTypedInception, IsTypedRotation}
use Rattle.event_body.specs.EventBody.Rules.{digested_values}
use Rattle.event_body.specs.EventBody.Spelling.{body_kind, delegator_values, inception_values, rotation_values, further_values, values_of}
use Rattle.event_body.specs.EventWriting.Writable.{IsWritable, HasOwnThresholds}

string_value : (text : List ℕ) → IsString text → IsValue (Str text)
string_value text is = (is, inl (text, refl))

list_value : (values : List Tree) → AllByRecursion IsJson values → IsValue (TreeList values)
list_value values all = (IsJson-from_list values all, inr (values, refl))

mapped : {A : Type 0} (f : A → Tree) (Is : A → Type 0) → ((a : A) → Is a → IsJson (f a)) → (xs : List A) → AllByRecursion Is xs → AllByRecursion IsJson (map f xs)
mapped f Is json [] all = tt
mapped f Is json (x ∷ xs) all = (json x all.0, mapped f Is json xs all.1)

digest_is : (digest : Digest) → IsValue (digest_value digest)
digest_is digest = string_value _ (digest_string digest)

prefix_is : (prefix : Prefix) → IsValue (prefix_value prefix)
prefix_is prefix = string_value _ (prefix_string prefix)

number_is : (n : ℕ) → n < 2 ^ 64 → IsValue (number_value n)
number_is n few = string_value _ (number_string (digits 16 false n) (hex_is n few).0)

keys_are : (keys : List Key) → AllByRecursion IsKey keys → IsValue (keys_value keys)
keys_are keys all = list_value _ (mapped key_value IsKey (λ k is. key_string k) keys all)

digests_are : (found : List Digest) → AllByRecursion IsDigest found → IsValue (digests_value found)
digests_are found all = list_value _ (mapped digest_value IsDigest (λ d is. digest_string d) found all)

strings_are : (texts : List (List ℕ)) → AllByRecursion IsString texts → IsValue (strings_value texts)
strings_are texts all = list_value _ (mapped (λ text. Str text) IsString (λ text is. is) texts all)

own_is : (threshold : Threshold) → HasOwnValue threshold → IsValue (threshold_value threshold)
own_is threshold own = (own.json, own.form)

delegator_is : (delegator : Option Prefix) → AllByRecursion IsValue (delegator_values delegator)
delegator_is None = tt
delegator_is (Some prefix) = (prefix_is prefix, tt)

inception_is : (e : Inception) → IsTypedInception e → HasOwnValue e.kt × HasOwnValue e.nt → AllByRecursion IsJson e.anchors → AllByRecursion IsString e.traits → AllByRecursion IsValue (inception_values e)
inception_is e held own anchors traits =
    (number_is 0 (omega arith), (own_is e.kt own.0, (keys_are e.keys held.keys, (own_is e.nt own.1, (digests_are e.next held.next, (number_is e.toad held.toad, (keys_are e.list held.list, (strings_are e.traits traits, (list_value e.anchors anchors, delegator_is e.delegator)))))))))

rotation_is : (e : Rotation) → IsTypedRotation e → HasOwnValue e.kt × HasOwnValue e.nt → AllByRecursion IsJson e.anchors → AllByRecursion IsValue (rotation_values e)
rotation_is e held own anchors =
    (number_is e.sn held.sn, (digest_is e.prior, (own_is e.kt own.0, (keys_are e.keys held.keys, (own_is e.nt own.1, (digests_are e.next held.next, (number_is e.toad held.toad, (keys_are e.cuts held.cuts, (keys_are e.adds held.adds, (list_value e.anchors anchors, tt))))))))))

further_are : (event : Event) → IsTyped event → HasOwnThresholds event → IsWritable event → AllByRecursion IsValue (further_values event)
further_are (Icp e) held own writable = inception_is e held own writable.0 writable.1
further_are (Dip e) held own writable = inception_is e held own writable.0 writable.1
further_are (Rot e) held own writable = rotation_is e held own writable
further_are (Drt e) held own writable = rotation_is e held own writable
further_are (Ixn e) held own writable = (number_is e.sn held.sn, (digest_is e.prior, (list_value e.anchors writable, tt)))
further_are (Rct receipt) held own writable = (number_is receipt.sn held.sn, tt)

pub values_are : (event : Event) → IsTyped event → HasOwnThresholds event → IsWritable event → AllByRecursion IsValue (values_of event)
values_are event held own writable = (digest_is (said_of event), (prefix_is (prefix_of event), further_are event held own writable))

pub all_json : (values : List Tree) → AllByRecursion IsValue values → AllByRecursion IsJson values
all_json [] all = tt
all_json (value ∷ values) all = (all.0.0, all_json values all.1)

placeholder_is : IsValue (Str placeholder)
unfolding placeholder
placeholder_is = string_value placeholder (plain_string placeholder refl)

hidden_is : (b : Bool) (prefix : Prefix) → IsValue (if b then Str placeholder else prefix_value prefix)
hidden_is true prefix = placeholder_is
hidden_is false prefix = prefix_is prefix

-- so are the values with placeholders
pub digested_are : (event : Event) → IsTyped event → HasOwnThresholds event → IsWritable event → AllByRecursion IsValue (digested_values event)
digested_are event held own writable = (placeholder_is, (hidden_is (hides_prefix event) (prefix_of event), further_are event held own writable))

no_value : (delegator : Option Prefix) → delegator ≡ None → length (delegator_values delegator) ≡ 0
no_value None none = refl
no_value (Some prefix) none = cc none

one_value : (delegator : Option Prefix) → IsSome delegator → length (delegator_values delegator) ≡ 1
one_value None some = cc some
one_value (Some prefix) some = refl

-- there are as many values as fields
pub values_long : (event : Event) → IsWritable event → length (values_of event) ≡ length (fields_of (body_kind event))
values_long (Icp e) writable = omega (arith, no_value e.delegator writable.2)
values_long (Dip e) writable = omega (arith, one_value e.delegator writable.2)
values_long (Rot e) writable = refl
values_long (Drt e) writable = refl
values_long (Ixn e) writable = refl
values_long (Rct receipt) writable = refl
