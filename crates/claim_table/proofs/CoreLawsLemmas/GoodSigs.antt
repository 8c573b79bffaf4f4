-- The good signatures of the controller on an event, and the places where they stand.
use Rattle.std.proofs.Common.{◌≡◌, ℕ, zero, suc, ◌<◌, Bool, true, false, ◌&&◌, ◌||◌, ◌==◌, ◌≤◌, List, [], ◌∷◌, ◌++◌, refl, sym, ◌∙◌, ap, arith, inl, inr, map, cond}
use Rattle.std.specs.Prelude.{filter, filter_map}
use Rattle.std.specs.List.{list_any}
use Rattle.std.proofs.lemmas.Bool.{cases_Bool, cases_eq}
use Rattle.std.proofs.Math.Bool.{and-false, and-true, or-false}
use Rattle.std.proofs.lemmas.List.Folds.{list_any-append}
use Rattle.cesr_codes.specs.declared.indexed_sig.IndexedSig.{IndexedSig}
use Rattle.cesr_codes.specs.declared.key.Key.{Key}
use Rattle.cesr_codes.specs.declared.sig.Sig.{Sig}
use Rattle.journal.specs.declared.journal.claim.Claim.{Claim}
use Rattle.journal.specs.declared.journal.claim.Claim.TheVariants.{Controller, Witness, Couple}
use Rattle.key_state.proofs.Numbers.{filter_below-suc}
use Rattle.key_state.proofs.Same.{number_itself, numbers}
use Rattle.key_state.specs.Exposure.{Rules, numbers_below}
use Rattle.journal.specs.Journal.Readiness.{held_sig}
use Rattle.journal.specs.EventRules.Claims.{is_good, is_held_so}
use Rattle.claim_table.proofs.CoreLawsLemmas.Below.{AreSameBelow, is_among}

-- the controller's signatures among the claims that have a yes
unfoldable pub good : (Key → Sig → Bool) → Rules → List Claim → List IndexedSig
good says rules claims = filter_map held_sig (filter (is_good says rules) claims)

-- a good signature passes a test where a claim is one that does
module _ (says : Key → Sig → Bool) (rules : Rules) (test : IndexedSig → Bool) where
  pub any_good : (claims : List Claim) → list_any (is_held_so says rules test) claims ≡ list_any test (good says rules claims)
  unfolding good
  any_good [] = refl
  any_good (Controller s ∷ claims) = elim (cases_Bool (is_good says rules (Controller s))) [
    | inl k ↦ (let ih = any_good claims in rw (k, ih) refl)
    | inr k ↦ (let ih = any_good claims in rw (k, ih) refl)
  ]
  any_good (Witness s ∷ claims) = elim (cases_Bool (is_good says rules (Witness s))) [
    | inl k ↦ (let ih = any_good claims in rw (k, ih) refl)
    | inr k ↦ (let ih = any_good claims in rw (k, ih) refl)
  ]
  any_good (Couple key sig ∷ claims) = elim (cases_Bool (is_good says rules (Couple key sig))) [
    | inl k ↦ (let ih = any_good claims in rw (k, ih) refl)
    | inr k ↦ (let ih = any_good claims in rw (k, ih) refl)
  ]

-- an index is among those of signatures where one has it
pub any_index : (sigs : List IndexedSig) (n : ℕ) → is_among (map (λ s. s.index) sigs) n ≡ list_any (λ s. s.index == n) sigs
any_index [] n = refl
any_index (s ∷ sigs) n = let ih = any_index sigs n in rw ih refl

differ : (m n : ℕ) → (m ≡ n → ⊥) → (m == n) ≡ false
differ m n other = elim (cases_Bool (m == n)) [
  | inl k ↦ absurd (other (numbers m n k))
  | inr k ↦ k
]

among_push : (xs : List ℕ) (passes : Bool) (n m : ℕ) → is_among (xs ++ cond passes (n ∷ []) []) m ≡ (is_among xs m || (passes && (n == m)))
among_push xs true n m = list_any-append (λ i. i == m) xs (n ∷ []) ∙ ap (λ t. is_among xs m || t) (or-false (n == m))
among_push xs false n m = list_any-append (λ i. i == m) xs []

-- none of the numbers below a bound is one from it on
none_from : (p : ℕ → Bool) (bound n : ℕ) → bound ≤ n → is_among (filter p (numbers_below bound)) n ≡ false
unfolding numbers_below
none_from p zero n h = refl
none_from p (suc bound) n h =
    let more = filter_below-suc p bound in let ih = none_from p bound n (omega (arith, h)) in
    let other : (bound == n) ≡ false = differ bound n (λ e. omega (arith, h, e)) in
    ap (λ xs. is_among xs n) more ∙ among_push (filter p (numbers_below bound)) (p bound) bound n ∙ rw (ih, other) (and-false (p bound))

-- a number below the bound is among those that pass a test exactly where it passes
pub among_below : (p : ℕ → Bool) (bound n : ℕ) → n < bound → is_among (filter p (numbers_below bound)) n ≡ p n
among_below p zero n h = absurd (omega (arith, h))
among_below p (suc bound) n h = ap (λ xs. is_among xs n) (filter_below-suc p bound) ∙ among_push (filter p (numbers_below bound)) (p bound) bound n ∙ elim (cases_eq bound n) [
  | inl same ↦ (let none = none_from p bound n (omega (arith, same)) in let itself : (bound == n) ≡ true = ap (λ k. bound == k) (sym same) ∙ number_itself bound in
      rw (none, itself) (and-true (p bound) ∙ ap p same))
  | inr other ↦ (let apart : (bound == n) ≡ false = differ bound n other in let ih = among_below p bound n (omega (arith, h, other)) in
      rw (ih, apart) (ap (λ t. p n || t) (and-false (p bound)) ∙ or-false (p n)))
]

-- SAME: the places at which a good signature stands are the indices of the good signatures, below the bound
pub places_are : (says : Key → Sig → Bool) (rules : Rules) (claims : List Claim) (bound : ℕ)
    → AreSameBelow bound (filter (λ n. list_any (is_held_so says rules (λ s. s.index == n)) claims) (numbers_below bound)) (map (λ s. s.index) (good says rules claims))
places_are says rules claims bound n h = among_below (λ n. list_any (is_held_so says rules (λ s. s.index == n)) claims) bound n h
    ∙ any_good says rules (λ s. s.index == n) claims ∙ sym (any_index (good says rules claims) n)
