-- The parts that a claim with a yes adds.
use Rattle.std.proofs.Common.{◌≡◌, ℕ, true, false, ◌==◌, List, Option, Some, None, refl, sym, ◌∙◌, ap, inl, inr}
use Rattle.std.specs.Prelude.{slice_get, IfSome, IfNone}
use Rattle.std.proofs.lemmas.Bool.{cases_Bool}
use Rattle.cesr_codes.specs.declared.key.Key.{Key}
use Rattle.key_state.specs.Same.{are_witnesses, has_key, same_key}
use Rattle.key_state.proofs.Same.{number_itself, numbers, same_key_is, same_key_itself}
use Rattle.journal.proofs.JournalLemmas.Same.{turned}
use Rattle.journal.specs.EventRules.Claims.{has_this, is_so}
use Rattle.journal.specs.EventRules.Additions.{is_number}
use Rattle.journal.proofs.EventRulesLemmas.KeyPlaces.{has_at, one_place}

same_turned : (k l : Key) → same_key k l ≡ same_key l k
same_turned = turned same_key same_key_is same_key_itself

so_this : (o : Option Key) (key : Key) → is_so (same_key key) o ≡ has_this o key
so_this None key = refl
so_this (Some held) key = same_turned key held

-- PLACE: a place of the key that is found is its only one, and where none is found there is none
pub place_is : (keys : List Key) (key : Key) (o : Option ℕ) → IfSome o (λ n. has_this (slice_get keys n) key ≡ true) → IfNone o (has_key keys key ≡ false)
    → are_witnesses keys ≡ true → (n : ℕ) → is_number o n ≡ is_so (same_key key) (slice_get keys n)
place_is keys key None found none once n = sym (so_this (slice_get keys n) key ∙ elim (cases_Bool (has_this (slice_get keys n) key)) [
  | inl y ↦ (let inside = has_at keys n key y in cc)
  | inr k ↦ k
])
place_is keys key (Some m) found none once n = sym (so_this (slice_get keys n) key ∙ elim (cases_Bool (m == n)) [
  | inl y ↦ (let same = numbers m n y in ap (λ k. has_this (slice_get keys k) key) (sym same) ∙ found ∙ sym y)
  | inr k ↦ elim (cases_Bool (has_this (slice_get keys n) key)) [
    | inl y ↦ (let one = one_place keys once key m n found y in let same : (m == n) ≡ true = ap (λ k. m == k) (sym one) ∙ number_itself m in cc)
    | inr l ↦ l ∙ sym k
  ]
])
