-- What is found among the numbers of a hint is what is found in the list.
use Rattle.std.proofs.Common.{◌≡◌, ℕ, ◌+◌, suc, Bool, true, false, List, [], ◌∷◌, length, refl, sym, ◌∙◌, ap, inl, inr, arith, Option, Some, None}
use Rattle.std.specs.Prelude.{Contains, filter, find, position, slice_get}
use Rattle.std.specs.List.{list_any, position_from, range_with_len}
use Rattle.std.specs.Option.{option_map_or}
use Rattle.std.proofs.lemmas.Bool.{cases_Bool}
use Rattle.std.proofs.lemmas.Iterator.Adapters.{position_from-zero}
use Rattle.claim_table.proofs.CoreLawsLemmas.Members.{member_any}
use Rattle.escrow.specs.EventIndex.Rows.{HasRows, is_row, numbers_of}
use Rattle.escrow.proofs.EventIndexLemmas.Rows.{find-numbers}
use Rattle.journal.proofs.JournalLemmas.Places.{any_at, found_at}
use Rattle.validator_core.proofs.TablesLemmas.Rows.{not_some}

first_from : {X : Type 0} (test : X → Bool) (rows : List X) (a : ℕ) (q : ℕ → Bool) → ((i : ℕ) → q (a + i) ≡ is_row test rows i)
    → slice_get (filter q (range_with_len a (length rows))) 0 ≡ position_from test a rows
first_from test [] a q same = refl
first_from test (row ∷ rows) a q same =
    let here : q a ≡ test row = ap q (omega arith) ∙ same 0 in
    elim (cases_Bool (test row)) [
      | inl k ↦ (let passes = here ∙ k in rw (passes, k) refl)
      | inr k ↦ (let fails = here ∙ k in rw (fails, k) (first_from test rows (a + 1) q (λ i. ap q (omega arith) ∙ same (suc i))))
    ]

pub first_place : {X : Type 0} (test : X → Bool) (rows : List X) → slice_get (numbers_of test rows) 0 ≡ position test rows
first_place test rows = first_from test rows 0 (is_row test rows) (λ i. ap (is_row test rows) (omega arith)) ∙ sym (position_from-zero test rows)

-- a number that passes is that of a row
row_there : {X : Type 0} (test : X → Bool) (o : Option X) → option_map_or test o false ≡ true → (x : X) × (o ≡ Some x) × (test x ≡ true)
row_there test None t = cc
row_there test (Some x) t = (x, refl, t)

none_any : {X : Type 0} (test : X → Bool) (xs : List X) → find test xs ≡ None → list_any test xs ≡ false
none_any test [] e = refl
none_any test (x ∷ xs) e = elim (cases_Bool (test x)) [
  | inl k ↦ (let no = rw k at e in absurd (not_some x (sym no)))
  | inr k ↦ (let more = rw k at e in rw k (none_any test xs more))
]

found_passes : {X : Type 0} (test : X → Bool) (xs : List X) (x : X) → find test xs ≡ Some x → test x ≡ true
found_passes test [] x e = cc
found_passes test (y ∷ xs) x e = elim (cases_Bool (test y)) [
  | inl k ↦ (let one = rw k at e in let same : y ≡ x = cc in ap test (sym same) ∙ k)
  | inr k ↦ (let more = rw k at e in found_passes test xs x more)
]

-- some number is that of a row that is meant where there is such a row
pub any_among : {X : Type 0} (test : X → Bool) (rows : List X) (numbers : List ℕ) → ((i : ℕ) (row : X) → slice_get rows i ≡ Some row → test row ≡ true → Contains numbers i)
    → list_any (is_row test rows) numbers ≡ list_any test rows
any_among test rows numbers each = elim (cases_Bool (list_any test rows)) [
  | inl k ↦ (let at = found_at test rows k in
      let there : is_row test rows at.0 ≡ true = ap (λ o. option_map_or test o false) at.2 ∙ at.3 in
      member_any (is_row test rows) numbers at.0 (each at.0 at.1 at.2 at.3) there ∙ sym k)
  | inr k ↦ elim (cases_Bool (list_any (is_row test rows) numbers)) [
    | inl passes ↦ (let at = found_at (is_row test rows) numbers passes in let row = row_there test (slice_get rows at.1) at.3 in
        let no = any_at test rows at.1 row.0 row.1 row.2 in cc)
    | inr fails ↦ fails ∙ sym k
  ]
]

module _ {X : Type 0} (test : X → Bool) (rows : List X) (numbers : List ℕ) (has : HasRows test rows numbers) where
  -- the first number of a row that is meant is its place
  pub find_place : find (is_row test rows) numbers ≡ position test rows
  find_place = find-numbers test rows numbers has ∙ first_place test rows

  pub any_place : list_any (is_row test rows) numbers ≡ list_any test rows
  any_place = any_among test rows numbers has.each

  -- a number that is found is that of a row that is meant
  pub found_row : (n : ℕ) → find (is_row test rows) numbers ≡ Some n → (x : X) × (slice_get rows n ≡ Some x) × (test x ≡ true)
  found_row n e = row_there test (slice_get rows n) (found_passes (is_row test rows) numbers n e)

  -- without one there is no row that is meant
  pub none_row : find (is_row test rows) numbers ≡ None → list_any test rows ≡ false
  none_row e = sym any_place ∙ none_any (is_row test rows) numbers e
