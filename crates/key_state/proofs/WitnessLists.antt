-- Witness lists after a change.
use Rattle.std.proofs.Common.{◌≡◌, ◌≤◌, Bool, true, false, not, ◌&&◌, ◌||◌, List, [], ◌∷◌, ◌++◌, length, refl, sym, ◌∙◌, arith, inl, inr, rules, tests}
use Rattle.std.specs.Prelude.{filter, nat_lt}
use Rattle.std.specs.Bool.{IsTrue}
use Rattle.std.proofs.lemmas.Bool.Decides.{nat_tests}
use Rattle.std.specs.List.{list_any}
use Rattle.std.proofs.lemmas.Bool.{cases_Bool, and_parts, and_from, or_parts, not-true, not_from_false}
use Rattle.std.proofs.lemmas.List.Folds.{list_any-append}
use Rattle.cesr_codes.specs.declared.key.Key.{Key}
use Rattle.cesr_codes.specs.contracts.key.KeyPartialEq.TheImpl as test
use Rattle.cesr_codes.specs.contracts.key.KeyPartialEq.TheImpl.Laws as laws
use Rattle.event_body.specs.declared.event_body.rotation.Rotation.{Rotation}
use Rattle.key_state.specs.KeyStates.{changed_list, fits_count, is_bad_change}
use Rattle.key_state.specs.Same.{same_key, has_key, is_fixed, are_witnesses}

alike : (k l : Key) → (test.ghosts).eq k l ≡ same_key k l
alike k l = search (rules, tests)

turned : (k l : Key) → same_key k l ≡ same_key l k
turned k l = sym (alike k l) ∙ laws.laws-law.symm k l ∙ alike l k

any_or : {X : Type 0} (p q : X → Bool) (xs : List X) → list_any (λ x. p x || q x) xs ≡ false → (list_any p xs ≡ false) × (list_any q xs ≡ false)
any_or p q [] h = (refl, refl)
any_or p q (x ∷ xs) h =
    let parts = or_parts (p x || q x) (list_any (λ x. p x || q x) xs) h in
    let here = or_parts (p x) (q x) parts.0 in
    let ih = any_or p q xs parts.1 in
    (rw (here.0) ih.0, rw (here.1) ih.1)

any-filter : {X : Type 0} (p q : X → Bool) (xs : List X) → list_any q xs ≡ false → list_any q (filter p xs) ≡ false
any-filter p q [] h = refl
any-filter p q (x ∷ xs) h =
    let parts = or_parts (q x) (list_any q xs) h in
    let ih = any-filter p q xs parts.1 in
    elim (cases_Bool (p x)) [ inl k ↦ rw (k, parts.0) ih | inr k ↦ rw k ih ]

-- witnesses of which some were left out, and others that weren't among them
pub witnesses-changed : (p : Key → Bool) (old adds : List Key) → are_witnesses old ≡ true → are_witnesses adds ≡ true
    → list_any (has_key old) adds ≡ false → are_witnesses (filter p old ++ adds) ≡ true
witnesses-changed p [] adds h k n = k
witnesses-changed p (x ∷ old) adds h k n =
    let parts = and_parts (is_fixed x.code && not (has_key old x)) (are_witnesses old) h in
    let here = and_parts (is_fixed x.code) (not (has_key old x)) parts.0 in
    let others = any_or (same_key x) (has_key old) adds n in
    let ih = witnesses-changed p old adds parts.1 k others.1 in
    let left : has_key (filter p old) x ≡ false = any-filter p (λ l. same_key l x) old (not-true _ here.1) in
    let added : has_key adds x ≡ false = (λ i. list_any (λ l. turned l x i) adds) ∙ others.0 in
    let new : has_key (filter p old ++ adds) x ≡ false = list_any-append (λ l. same_key l x) (filter p old) adds ∙ rw (left, added) refl in
    elim (cases_Bool (p x)) [
      | inl y ↦ rw y (and_from _ _ (and_from _ _ here.0 (not_from_false _ new)) ih)
      | inr y ↦ rw y ih
    ]

none_of : (a b c d : Bool) → (a || b || c || d) ≡ false → (b ≡ false) × (c ≡ false)
none_of a b c d h = let three = (or_parts (a || b || c) d h).0 in let two = or_parts (a || b) c three in ((or_parts a b two.0).1, two.1)

module _ (old : List Key) (e : Rotation) (good : is_bad_change old e ≡ false) where
  parts : (list_any (has_key old) e.adds ≡ false) × (nat_lt 64 (length (changed_list old e)) ≡ false)
  parts = none_of (list_any (λ k. not (has_key old k)) e.cuts) (list_any (has_key old) e.adds) (nat_lt 64 (length (changed_list old e)))
      (not (fits_count e.toad (length (changed_list old e)))) good

  -- what a good change leaves: at most 64, who are witnesses
  pub few_changed : length (changed_list old e) ≤ 64
  few_changed = let few = parts.1 in grind (arith, nat_tests, few)

  pub are_changed : IsTrue (are_witnesses old) → IsTrue (are_witnesses e.adds) → IsTrue (are_witnesses (changed_list old e))
  are_changed h k = witnesses-changed (λ k. not (has_key e.cuts k)) old e.adds h k parts.0
