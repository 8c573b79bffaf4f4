-- Numbers in lists, and candidates with one number more.
use Rattle.std.proofs.Common.{◌≡◌, ℕ, ◌<◌, ◌+◌, ◌⊎◌, List, [], ◌∷◌, length, take, refl, sym, ◌∙◌, subst, inl, inr, arith, get_or}
use Rattle.std.specs.Prelude.{Contains}
use Rattle.std.specs.BTreeSet.{insert_key}
use Rattle.std.specs.Cmp.{nat_cmp_is}
use Rattle.std.specs.Ordering.{nat_cmp}
use Rattle.std.specs.declared.cmp.Ordering.TheVariants.{Less, Equal, Greater}
use Rattle.std.proofs.lemmas.Bool.{cases_eq, cases_lt}
use Rattle.std.proofs.lemmas.List.{take_more}
use Rattle.std.proofs.lemmas.List.Elements.{Contains-append_cases, Contains-append_right}
use Rattle.escrow.proofs.EventIndexLemmas.Orders.{Contains-one}

pub first_in : {X : Type 0} (x : X) (xs : List X) → Contains (x ∷ xs) x
first_in x xs = (0, omega arith, refl)

pub behind_in : {X : Type 0} (x : X) (xs : List X) (y : X) → Contains xs y → Contains (x ∷ xs) y
behind_in x xs y h = Contains-append_right (x ∷ []) xs y h

pub first_or : {X : Type 0} (x : X) (xs : List X) (y : X) → Contains (x ∷ xs) y → (x ≡ y) ⊎ Contains xs y
first_or x xs y h = elim (Contains-append_cases (x ∷ []) xs y h) [
  | inl one ↦ inl (Contains-one x y one)
  | inr rest ↦ inr rest
]

-- a number is one of the first, or the next
pub taken_or : (xs : List ℕ) (i n : ℕ) → i < length xs → Contains (take (i + 1) xs) n → Contains (take i xs) n ⊎ (get_or xs i 0 ≡ n)
taken_or xs i n low has = elim (Contains-append_cases (take i xs) (get_or xs i 0 ∷ []) n (subst (λ ys. Contains ys n) (take_more xs i 0 low) has)) [
  | inl front ↦ inl front
  | inr last ↦ inr (Contains-one (get_or xs i 0) n last)
]

-- INSERTED: those that were, and the number
pub inserted_kept : (ks : List ℕ) (k n : ℕ) → Contains ks n → Contains (insert_key nat_cmp ks k) n
inserted_kept [] k n h = behind_in k [] n h
inserted_kept (x ∷ xs) k n h = elim (cases_lt k x) [
  | inl less ↦ (let is = sym (nat_cmp_is k x Less less) in rw is (behind_in k (x ∷ xs) n h))
  | inr more ↦ elim (cases_eq k x) [
    | inl same ↦ (let is = sym (nat_cmp_is k x Equal same) in rw is h)
    | inr other ↦ (let is = sym (nat_cmp_is k x Greater (omega (arith, more, other))) in
        rw is (elim (first_or x xs n h) [
          | inl here ↦ subst (Contains (x ∷ insert_key nat_cmp xs k)) here (first_in x (insert_key nat_cmp xs k))
          | inr rest ↦ behind_in x (insert_key nat_cmp xs k) n (inserted_kept xs k n rest)
        ]))
  ]
]

pub inserted_there : (ks : List ℕ) (k : ℕ) → Contains (insert_key nat_cmp ks k) k
inserted_there [] k = first_in k []
inserted_there (x ∷ xs) k = elim (cases_lt k x) [
  | inl less ↦ (let is = sym (nat_cmp_is k x Less less) in rw is (first_in k (x ∷ xs)))
  | inr more ↦ elim (cases_eq k x) [
    | inl same ↦ (let is = sym (nat_cmp_is k x Equal same) in rw is (subst (Contains (x ∷ xs)) (sym same) (first_in x xs)))
    | inr other ↦ (let is = sym (nat_cmp_is k x Greater (omega (arith, more, other))) in rw is (behind_in x (insert_key nat_cmp xs k) k (inserted_there xs k)))
  ]
]

pub inserted_or : (ks : List ℕ) (k n : ℕ) → Contains (insert_key nat_cmp ks k) n → Contains ks n ⊎ (k ≡ n)
inserted_or [] k n h = inr (Contains-one k n h)
inserted_or (x ∷ xs) k n h = elim (cases_lt k x) [
  | inl less ↦ (let is = sym (nat_cmp_is k x Less less) in let low : Contains (k ∷ x ∷ xs) n = rw is at h in
      elim (first_or k (x ∷ xs) n low) [
        | inl here ↦ inr here
        | inr rest ↦ inl rest
      ])
  | inr more ↦ elim (cases_eq k x) [
    | inl same ↦ (let is = sym (nat_cmp_is k x Equal same) in let all : Contains (x ∷ xs) n = rw is at h in inl all)
    | inr other ↦ (let is = sym (nat_cmp_is k x Greater (omega (arith, more, other))) in let high : Contains (x ∷ insert_key nat_cmp xs k) n = rw is at h in
        elim (first_or x (insert_key nat_cmp xs k) n high) [
          | inl here ↦ inl (subst (Contains (x ∷ xs)) here (first_in x xs))
          | inr rest ↦ elim (inserted_or xs k n rest) [
            | inl there ↦ inl (behind_in x xs n there)
            | inr new ↦ inr new
          ]
        ])
  ]
]

-- LESS: in the order of numbers
pub less_is : (k x : ℕ) → nat_cmp k x ≡ Less → k < x
less_is k x is = elim (cases_lt k x) [
  | inl less ↦ less
  | inr more ↦ elim (cases_eq k x) [
    | inl same ↦ (let no : Equal ≡ Less = nat_cmp_is k x Equal same ∙ is in cc)
    | inr other ↦ (let no : Greater ≡ Less = nat_cmp_is k x Greater (omega (arith, more, other)) ∙ is in cc)
  ]
]
