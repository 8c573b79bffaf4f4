-- How many messages all readers took together.
use Rattle.std.proofs.Common.{◌≡◌, ℕ, suc, ◌+◌, ◌≤◌, ◌<◌, ◌==◌, List, [], ◌∷◌, length, refl, inl, inr, arith, eqb-true}
use Rattle.std.specs.Prelude.{filter, flat_map}
use Rattle.std.proofs.lemmas.Bool.{cases_Bool}
use Rattle.journal.specs.Journal.Feeds.{is_taken_by}
use Rattle.journal.specs.Journal.History.{Told, took, heard, taken}
use Rattle.journal.specs.declared.journal.body.Body.{Body}
use Rattle.journal.specs.declared.journal.claim.Claim.{Claim}

module _ {A : Type 0} where
  -- so many messages of what is told these readers took, the first of them having this number
  abbrev pub taken_by_each : ℕ → List A → List Told → ℕ
  taken_by_each k [] told = 0
  taken_by_each k (x ∷ xs) told = length (filter (is_taken_by k) told) + taken_by_each (k + 1) xs told

  none_taken : (k : ℕ) (xs : List A) → taken_by_each k xs [] ≡ 0
  none_taken k [] = refl
  none_taken k (x ∷ xs) = let ih = none_taken (k + 1) xs in omega (arith, ih)

  module _ (n : ℕ) (b : Body) (claims : List Claim) (told : List Told) where
    -- readers of greater numbers took no more
    none_above : (k : ℕ) (xs : List A) → n < k → taken_by_each k xs (took n b claims ∷ told) ≡ taken_by_each k xs told
    none_above k [] lt = refl
    none_above k (x ∷ xs) lt = elim (cases_Bool (n == k)) [
      | inl is ↦ (let same : n ≡ k = eqb-true n k is in absurd (omega (arith, same, lt)))
      | inr is ↦ (let ih = none_above (k + 1) xs (omega (arith, lt)) in rw (is, ih) refl)
    ]

    -- one reader at most took one more
    one_more : (k : ℕ) (xs : List A) → taken_by_each k xs (took n b claims ∷ told) ≤ suc (taken_by_each k xs told)
    one_more k [] = omega arith
    one_more k (x ∷ xs) = elim (cases_Bool (n == k)) [
      | inl is ↦ (let same : n ≡ k = eqb-true n k is in let rest = none_above (k + 1) xs (omega (arith, same)) in rw (is, rest) (omega arith))
      | inr is ↦ (let ih = one_more (k + 1) xs in rw is (omega (arith, ih)))
    ]

  pub no_more_taken : (k : ℕ) (xs : List A) (told : List Told) → taken_by_each k xs told ≤ length (flat_map taken told)
  no_more_taken k xs [] = let none = none_taken k xs in omega (arith, none)
  no_more_taken k xs (took n b claims ∷ told) = let ih = no_more_taken k xs told in let one = one_more n b claims told k xs in omega (arith, ih, one)
  no_more_taken k xs (heard n b key sig verdict ∷ told) = let ih = no_more_taken k xs told in let same = still k xs in omega (arith, ih, same)
    where
      still : (m : ℕ) (ys : List A) → taken_by_each m ys (heard n b key sig verdict ∷ told) ≡ taken_by_each m ys told
      still m [] = refl
      still m (y ∷ ys) = let rest = still (m + 1) ys in omega (arith, rest)
