-- Where keys stand in a list, and in a list without the cuts with the adds behind it.
use Rattle.std.proofs.Common.{◌≡◌, ℕ, zero, suc, ◌+◌, ◌<◌, ◌≤◌, Bool, true, false, not, ◌&&◌, ◌||◌, List, [], ◌∷◌, ◌++◌, Option, Some, None, refl, ◌∙◌, ap, arith, inl, inr, length}
use Rattle.std.specs.Prelude.{IfNone, filter, position, slice_get, take}
use Rattle.std.specs.List.{position_or_len}
use Rattle.std.proofs.lemmas.Bool.{and_left, and_right, cases_Bool, cases_lt, cond_below, not_from_false, not_from_true, or_from}
use Rattle.std.proofs.Math.Bool.{or_comm}
use Rattle.std.proofs.lemmas.List.Folds.{list_any-append, list_any_none}
use Rattle.std.proofs.lemmas.List.Sums.{fails_before_first}
use Rattle.std.proofs.lemmas.Option.{slice_get_within}
use Rattle.cesr_codes.specs.declared.key.Key.{Key}
use Rattle.event_body.specs.declared.event_body.rotation.Rotation.{Rotation}
use Rattle.key_state.specs.KeyStates.{changed_list}
use Rattle.key_state.specs.Same.{has_key, same_key}
use Rattle.key_state.proofs.Same.{same_key_is, same_key_itself}
use Rattle.journal.specs.EventRules.Claims.{has_this}

-- where there is no first place, the key isn't in the list
pub none_has : (keys : List Key) (key : Key) (place : Option ℕ) → place ≡ position (λ held. same_key held key) keys → IfNone place (has_key keys key ≡ false)
none_has keys key (Some n) is = tt
none_has keys key None is =
    let past : length keys ≤ position_or_len (λ held. same_key held key) keys = elim (cases_lt (position_or_len (λ held. same_key held key) keys) (length keys)) [
      | inl below ↦ (let first = cond_below (position_or_len (λ held. same_key held key) keys) (length keys) (Some (position_or_len (λ held. same_key held key) keys)) None below in cc)
      | inr all ↦ all
    ] in
    list_any_none (λ held. same_key held key) keys (λ k d inside. fails_before_first (λ held. same_key held key) keys k d (omega (arith, inside, past)))

-- it is the key itself
pub is_this : (held : Option Key) (key : Key) → has_this held key ≡ true → held ≡ Some key
is_this None key h = cc
is_this (Some held) key h = ap (λ k. Some k) (same_key_is held key h)

-- a place that has a key is one of the list
pub place_within : (keys : List Key) (n : ℕ) (key : Key) → has_this (slice_get keys n) key ≡ true → n < length keys
place_within keys n key h = slice_get_within keys n key (is_this (slice_get keys n) key h)

-- a member of the first of two lists
front_at : (xs ys : List Key) (n : ℕ) (key : Key) → slice_get xs n ≡ Some key → slice_get (xs ++ ys) n ≡ Some key
front_at [] ys n key at = cc
front_at (x ∷ xs) ys zero key at = at
front_at (x ∷ xs) ys (suc n) key at = front_at xs ys n key at

-- a member of the second of two lists
back_at : (xs ys : List Key) (n : ℕ) → slice_get (xs ++ ys) (length xs + n) ≡ slice_get ys n
back_at [] ys n = ap (λ k. slice_get ys k) (let same : 0 + n ≡ n = omega arith in same)
back_at (x ∷ xs) ys n = ap (λ k. slice_get (x ∷ (xs ++ ys)) k) (let next : suc (length xs) + n ≡ suc (length xs + n) = omega arith in next) ∙ back_at xs ys n

-- a member that is kept stands behind those that are kept of what stands before it
kept_at : (p : Key → Bool) (old : List Key) (n : ℕ) (key : Key) → p key ≡ true → slice_get old n ≡ Some key → slice_get (filter p old) (length (filter p (take n old))) ≡ Some key
kept_at p [] n key kept at = cc
kept_at p (x ∷ old) zero key kept at = let same : x ≡ key = cc in let yes : p x ≡ true = ap p same ∙ kept in rw yes at
kept_at p (x ∷ old) (suc n) key kept at = (let ih = kept_at p old n key kept at in elim (cases_Bool (p x)) [ inl y ↦ rw y ih | inr k ↦ rw k ih ])

-- a key is left where it was there and is kept
has_left : (p : Key → Bool) (old : List Key) (key : Key) → has_key (filter p old) key ≡ (has_key old key && p key)
has_left p [] key = refl
has_left p (x ∷ old) key = (let ih = has_left p old key in
    elim (cases_Bool (same_key x key)) [
      | inl s ↦ (let own : p x ≡ p key = ap p (same_key_is x key s) in elim (cases_Bool (p key)) [
        | inl y ↦ (let here = own ∙ y in rw (here, s, y) refl)
        | inr k ↦ (let here = own ∙ k in let none = ih ∙ and_right _ _ k in rw (here, s, k) none)
      ])
      | inr o ↦ elim (cases_Bool (p x)) [ inl y ↦ rw (y, o) ih | inr k ↦ rw (k, o) ih ]
    ])

module _ (old : List Key) (e : Rotation) (key : Key) where
  abbrev is_left : Key → Bool
  is_left k = not (has_key e.cuts k)

  -- a member of the old list that isn't cut
  pub left_at : (n : ℕ) → has_key e.cuts key ≡ false → has_this (slice_get old n) key ≡ true → has_this (slice_get (changed_list old e) (length (filter is_left (take n old)))) key ≡ true
  left_at n free has =
      let at = kept_at is_left old n key (not_from_false _ free) (is_this (slice_get old n) key has) in
      ap (λ held. has_this held key) (front_at (filter is_left old) e.adds _ key at) ∙ same_key_itself key

  -- an add
  pub added_at : (n : ℕ) → has_this (slice_get e.adds n) key ≡ true → has_this (slice_get (changed_list old e) (length (filter is_left old) + n)) key ≡ true
  added_at n has = ap (λ held. has_this held key) (back_at (filter is_left old) e.adds n) ∙ has

  -- a key is in the changed list where it is an add, or was there and isn't cut
  pub has_changed : has_key (changed_list old e) key ≡ (has_key e.adds key || (has_key old key && is_left key))
  has_changed = list_any-append (λ held. same_key held key) (filter is_left old) e.adds ∙ ap (λ b. b || has_key e.adds key) (has_left is_left old key) ∙ or_comm (has_key old key && is_left key) (has_key e.adds key)

  -- so one that is cut and isn't added isn't there
  pub cut_not_added : has_key e.cuts key ≡ true → has_key e.adds key ≡ false → has_key (changed_list old e) key ≡ false
  cut_not_added cut unadded = has_changed ∙ or_from _ _ unadded (and_right _ _ (not_from_true _ cut))

  -- nor is one that wasn't there and isn't added
  pub never_there : has_key old key ≡ false → has_key e.adds key ≡ false → has_key (changed_list old e) key ≡ false
  never_there absent unadded = has_changed ∙ or_from _ _ unadded (and_left _ _ absent)
