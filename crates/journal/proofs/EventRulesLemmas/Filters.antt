-- The numbers below a bound that pass a test, one after the other.
use Rattle.std.proofs.Common.{◌≡◌, ℕ, zero, suc, ◌+◌, ◌<◌, ◌≤◌, Bool, true, false, List, [], ◌∷◌, ◌++◌, Option, Some, None, refl, sym, ◌∙◌, ap, arith, cond, inl, inr, length}
use Rattle.std.specs.Prelude.{filter, slice_get}
use Rattle.std.proofs.lemmas.Bool.{cases_Bool}
use Rattle.std.proofs.lemmas.Option.{slice_get_within}
use Rattle.cesr_codes.specs.declared.key.Key.{Key}
use Rattle.journal.specs.EventRules.Claims.{is_so}
use Rattle.std.proofs.lemmas.List.{length-append}
use Rattle.key_state.specs.Exposure.{numbers_below}
use Rattle.key_state.proofs.Numbers.{filter_below, none_below}

-- one more, where it passes, is at most one more
pub push_few : (xs : List ℕ) (passes : Bool) (n bound : ℕ) → length xs ≤ bound → length (xs ++ cond passes (n ∷ []) []) ≤ bound + 1
push_few xs true n bound h = omega (arith, h, length-append xs (n ∷ []))
push_few xs false n bound h = omega (arith, h, length-append {A = ℕ} xs [])

-- the numbers that pass, with one more number
pub more_places : (p : ℕ → Bool) (n : ℕ) (places now : List ℕ) (passes : Bool) → places ≡ filter p (numbers_below n) → now ≡ places ++ cond passes (n ∷ []) [] → passes ≡ p n
    → now ≡ filter p (numbers_below (n + 1))
more_places p n places now passes before is test = is ∙ ap (λ t. places ++ cond t (n ∷ []) []) test ∙ ap (λ xs. xs ++ cond (p n) (n ∷ []) []) before ∙ sym (filter_below p n)

-- and how many they are
pub passing_more : (p : ℕ → Bool) (n : ℕ) → length (filter p (numbers_below (n + 1))) ≡ length (filter p (numbers_below n)) + cond (p n) 1 0
passing_more p n = ap length (filter_below p n) ∙ length-append (filter p (numbers_below n)) (cond (p n) (n ∷ []) []) ∙ ap (λ m. length (filter p (numbers_below n)) + m) (one (p n))
  where
    one : (passes : Bool) → length (cond passes (n ∷ []) []) ≡ cond passes 1 0
    one true = refl
    one false = refl

-- where those that pass are below a bound, they are no more than it says
pub few_passing : (p : ℕ → Bool) (bound : ℕ) → ((n : ℕ) → p n ≡ true → n < bound) → (n : ℕ) → length (filter p (numbers_below n)) ≤ bound
few_passing p bound within n = (both n).1
  where
    both : (n : ℕ) → (length (filter p (numbers_below n)) ≤ n) × (length (filter p (numbers_below n)) ≤ bound)
    both zero = let none = ap (λ xs. length (filter p xs)) none_below in (omega (arith, none), omega (arith, none))
    both (suc n) =
        let before = both n in let few = before.0 in let fit = before.1 in
        let next : n + 1 ≡ suc n = omega arith in let more = sym (ap (λ k. length (filter p (numbers_below k))) next) ∙ passing_more p n in
        elim (cases_Bool (p n)) [
          | inl y ↦ (let lt = within n y in let one = ap {B = ℕ} (λ b. cond b 1 0) y in (omega (arith, few, more, one), omega (arith, few, more, one, lt)))
          | inr k ↦ (let one = ap {B = ℕ} (λ b. cond b 1 0) k in (omega (arith, few, more, one), omega (arith, fit, more, one)))
        ]

-- a place that names a key is one of the list
pub named_within : (by : Key → Bool) (keys : List Key) (n : ℕ) → is_so by (slice_get keys n) ≡ true → n < length keys
named_within by keys n h = there (slice_get keys n) refl h
  where
    there : (o : Option Key) → slice_get keys n ≡ o → is_so by o ≡ true → n < length keys
    there None at h = cc
    there (Some key) at h = slice_get_within keys n key at
