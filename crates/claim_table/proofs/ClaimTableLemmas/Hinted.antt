-- The numbers at the keys of bodies, while one is added.
use Rattle.std.proofs.Common.{◌≡◌, ◌≤◌, ◌<◌, ℕ, zero, suc, false, List, [], ◌∷◌, ◌++◌, length, Some, refl, sym, ◌∙◌, ap, subst, set, inl, inr, arith}
use Rattle.std.specs.Prelude.{slice_get, nat_lt, Contains, OnOk, Ok, Err, Result, if◌then◌else◌}
use Rattle.std.proofs.lemmas.Bool.{cases_eq, cases_lt, lt-ltb}
use Rattle.std.proofs.lemmas.List.Elements.{Contains-append_cases, Contains-append_left, Contains-append_right}
use Rattle.std.proofs.lemmas.Bool.Decides.{nat_tests}
use Rattle.escrow.specs.EventIndex.Keys.{numbers_in}
use Rattle.escrow.specs.EventIndex.Numbers.{Numbers}
use Rattle.claim_table.specs.ClaimTable.Hinted.{few_in, shown}
use Rattle.claim_table.proofs.ClaimTableLemmas.Places.{set_elsewhere, set_here}

-- a body more has no numbers
pub few_pushed : (lists : List Numbers) (more : Numbers) → more.list ≡ [] → (b : ℕ) → few_in (lists ++ more ∷ []) b ≡ few_in lists b
few_pushed [] more empty zero = empty
few_pushed [] more empty (suc b) = refl
few_pushed (l ∷ lists) more empty zero = refl
few_pushed (l ∷ lists) more empty (suc b) = few_pushed lists more empty b

-- what is true of the change of one body's numbers, and of no change, is true everywhere
pub few_changed : (P : List ℕ → List ℕ → Type 0) (lists : List Numbers) (body : ℕ) (was now : Numbers) → slice_get lists body ≡ Some was → P was.list now.list → ((ks : List ℕ) → P ks ks)
    → (b : ℕ) → P (few_in lists b) (few_in (set lists body now) b)
few_changed P lists body was now at here apart b = elim (cases_eq b body) [
  | inl same ↦ (
      let old = ap numbers_in (ap (slice_get lists) same ∙ at) in
      let new = ap numbers_in (ap (slice_get (set lists body now)) same ∙ set_here lists body was now at) in
      subst (λ ks. P (few_in lists b) ks) (sym new) (subst (λ ks. P ks now.list) (sym old) here))
  | inr other ↦ subst (λ ks. P (few_in lists b) ks) (sym (ap numbers_in (set_elsewhere lists body b now other))) (apart (few_in lists b))
]

-- the numbers with keys are shown once those without are many enough
pub none_shown : (few many : List ℕ) → length few < 8 → shown few many ≡ []
none_shown few many lt = ap (λ b. if b then [] else many) (lt-ltb (length few) 8 lt)

pub all_shown : (few many : List ℕ) → 8 ≤ length few → shown few many ≡ many
all_shown few many le = ap (λ b. if b then [] else many) (not_below (length few) 8 le)
  where
    not_below : (m n : ℕ) → n ≤ m → nat_lt m n ≡ false
    not_below m n le = grind (arith, nat_tests, le)

module _ (few now many more : List ℕ) (n : ℕ) where
  -- a number stays among those at a key, where it stays among its kind
  pub still_hinted : (Contains few n → Contains now n) → (8 ≤ length few → 8 ≤ length now) → (Contains many n → Contains more n) → Contains (few ++ shown few many) n → Contains (now ++ shown now more) n
  still_hinted grew still kept h = elim (Contains-append_cases few (shown few many) n h) [
    | inl among ↦ Contains-append_left now (shown now more) n (grew among)
    | inr keyed ↦ elim (cases_lt (length few) 8) [
      | inl lt ↦ (let no : Contains [] n = subst (λ ks. Contains ks n) (none_shown few many lt) keyed in absurd (omega (arith, no.1)))
      | inr ge ↦ Contains-append_right now (shown now more) n (subst (λ ks. Contains ks n) (sym (all_shown now more (still ge))) (kept (subst (λ ks. Contains ks n) (all_shown few many ge) keyed)))
    ]
  ]

  pub hinted_few : Contains now n → Contains (now ++ shown now more) n
  hinted_few h = Contains-append_left now (shown now more) n h

  pub hinted_many : 8 ≤ length now → Contains more n → Contains (now ++ shown now more) n
  hinted_many le h = Contains-append_right now (shown now more) n (subst (λ ks. Contains ks n) (sym (all_shown now more le)) h)

-- what holds where there is no error
pub on_ok : {A E P Q : Type 0} (r : Result A E) → (P → Q) → OnOk r P → OnOk r Q
on_ok (Ok x) f p = f p
on_ok (Err e) f p = p
