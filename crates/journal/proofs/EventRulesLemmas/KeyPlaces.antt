-- Witnesses by their places in a list.
use Rattle.std.proofs.Common.{◌≡◌, ℕ, zero, suc, ◌+◌, ◌≤◌, Bool, true, not, ◌&&◌, List, [], ◌∷◌, refl, ◌∙◌, ap, arith, inl, inr, length}
use Rattle.std.specs.Prelude.{filter, slice_get}
use Rattle.std.proofs.lemmas.Bool.{and_parts, cases_Bool, or_left, or_right, not-true}
use Rattle.std.proofs.lemmas.List.{length-append}
use Rattle.cesr_codes.specs.declared.key.Key.{Key}
use Rattle.event_body.specs.declared.event_body.rotation.Rotation.{Rotation}
use Rattle.key_state.specs.KeyStates.{changed_list}
use Rattle.key_state.specs.Same.{are_witnesses, has_key, is_fixed, same_key}
use Rattle.key_state.proofs.Same.{same_key_is}
use Rattle.journal.specs.EventRules.Claims.{has_this}

-- those that are left are no more
pub filter_few : (p : Key → Bool) (keys : List Key) → length (filter p keys) ≤ length keys
filter_few p [] = omega arith
filter_few p (k ∷ keys) = (let ih = filter_few p keys in elim (cases_Bool (p k)) [ inl y ↦ rw y (omega (arith, ih)) | inr n ↦ rw n (omega (arith, ih)) ])

-- a changed list has no more than the old one and the adds
pub few_changed : (old : List Key) (e : Rotation) → length (changed_list old e) ≤ length old + length e.adds
few_changed old e = (let few = filter_few (λ k. not (has_key e.cuts k)) old in omega (arith, few, length-append (filter (λ k. not (has_key e.cuts k)) old) e.adds))

-- a key at a place is in the list
pub has_at : (keys : List Key) (n : ℕ) (key : Key) → has_this (slice_get keys n) key ≡ true → has_key keys key ≡ true
has_at [] n key h = cc
has_at (k ∷ keys) zero key h = or_left _ _ h
has_at (k ∷ keys) (suc n) key h = or_right _ _ (has_at keys n key h)

-- the first of witnesses doesn't stand again
first_once : (x : Key) (keys : List Key) (key : Key) (n : ℕ) → are_witnesses (x ∷ keys) ≡ true → same_key x key ≡ true → has_this (slice_get keys n) key ≡ true → ⊥
first_once x keys key n once h k =
    let first = and_parts (is_fixed x.code && not (has_key keys x)) (are_witnesses keys) once in
    let new = not-true _ (and_parts (is_fixed x.code) (not (has_key keys x)) first.0).1 in
    let is = same_key_is x key h in
    let again : has_key keys x ≡ true = ap (has_key keys) is ∙ has_at keys n key k in cc

-- witnesses have one place each
pub one_place : (keys : List Key) → are_witnesses keys ≡ true → (key : Key) (m n : ℕ) → has_this (slice_get keys m) key ≡ true → has_this (slice_get keys n) key ≡ true → m ≡ n
one_place [] once key m n h k = cc
one_place (x ∷ keys) once key zero zero h k = refl
one_place (x ∷ keys) once key zero (suc n) h k = absurd (first_once x keys key n once h k)
one_place (x ∷ keys) once key (suc m) zero h k = absurd (first_once x keys key m once k h)
one_place (x ∷ keys) once key (suc m) (suc n) h k = ap suc (one_place keys (and_parts (is_fixed x.code && not (has_key keys x)) (are_witnesses keys) once).1 key m n h k)
