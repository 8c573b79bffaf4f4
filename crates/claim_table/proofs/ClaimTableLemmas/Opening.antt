-- The spots are those of the open rows, body by body.
use Rattle.std.proofs.Common.{◌≡◌, ℕ, zero, suc, ◌⊎◌, ◌+◌, ◌<◌, ◌≤◌, Bool, true, false, List, [], ◌∷◌, ◌++◌, take, Option, Some, None, refl, sym, ◌∙◌, ap, subst, inl, inr, arith, append-nil, append_assoc}
use Rattle.std.specs.Prelude.{slice_get, if◌then◌else◌}
use Rattle.std.specs.List.{AllByRecursion, list_any}
use Rattle.std.specs.List.Sorted.{IsStrictlySortedBy}
use Rattle.std.specs.declared.cmp.Ordering.TheVariants.{Less, Equal}
use Rattle.std.specs.Cmp.{nat_cmp_is}
use Rattle.std.specs.Ordering.{is_eq}
use Rattle.std.specs.BTreeMap.{is_at}
use Rattle.std.specs.BTreeSet.{BTreeSet, IsOrdered, contains}
use Rattle.std.proofs.lemmas.Bool.{cases_Bool, cases_lt}
use Rattle.std.proofs.Math.Bool.{or-false}
use Rattle.std.proofs.lemmas.List.Folds.{list_any-append}
use Rattle.std.proofs.lemmas.Map.Lookups.{btree_set_from_contains}
use Rattle.claim_table.specs.declared.claim_table.row.Row.{Row}
use Rattle.claim_table.specs.declared.claim_table.spot.Spot.{Spot}
use Rattle.claim_table.specs.ClaimTable.Keeping.{AreOpen, is_open_at, opens, spot_at, spot_cmp}
use Rattle.claim_table.specs.ClaimTable.Table.{AreBelow}
use Rattle.claim_table.proofs.ClaimTableLemmas.Lists.{differ}
use Rattle.claim_table.proofs.ClaimTableLemmas.Spots.{spot_is, spot_itself, spot_total}

-- the spots of a body's open rows, after some rows, the first of the rest having this place
abbrev pub open_from : ℕ → List Row → ℕ → List Row → List Spot
open_from n before i [] = []
open_from n before i (r ∷ rows) = if opens n before (Some r) then spot_at n i ∷ open_from n (before ++ r ∷ []) (suc i) rows else open_from n (before ++ r ∷ []) (suc i) rows

-- those of so many bodies in turn
abbrev pub open_of : ℕ → ℕ → List Row → List Spot
open_of n zero rows = []
open_of n (suc count) rows = open_from n [] 0 rows ++ open_of (suc n) count rows

-- what holds of each open row
module _ (P : Spot → Type 0) where
  all_from : (n : ℕ) (before : List Row) (i : ℕ) (rows : List Row) → ((k : ℕ) → P (spot_at n (i + k))) → AllByRecursion P (open_from n before i rows)
  all_from n before i [] each = tt
  all_from n before i (r ∷ rows) each =
      let more = all_from n (before ++ r ∷ []) (suc i) rows (λ k. subst (λ j. P (spot_at n j)) (omega arith) (each (suc k))) in
      let first = subst (λ j. P (spot_at n j)) (omega arith) (each 0) in
      elim (cases_Bool (opens n before (Some r))) [
        | inl k ↦ rw k (first, more)
        | inr k ↦ rw k more
      ]

  all_both : (xs ys : List Spot) → AllByRecursion P xs → AllByRecursion P ys → AllByRecursion P (xs ++ ys)
  all_both [] ys p q = q
  all_both (x ∷ xs) ys p q = (p.0, all_both xs ys p.1 q)

  all_of : (n count : ℕ) (rows : List Row) → ((m i : ℕ) → n ≤ m → m < n + count → P (spot_at m i)) → AllByRecursion P (open_of n count rows)
  all_of n zero rows each = tt
  all_of n (suc count) rows each = all_both (open_from n [] 0 rows) (open_of (suc n) count rows)
      (all_from n [] 0 rows (λ k. each n (0 + k) (omega arith) (omega arith))) (all_of (suc n) count rows (λ m i h k. each m i (omega (arith, h)) (omega (arith, k))))

-- the spots rise
rises : (m i n j : ℕ) → (m < n) ⊎ ((m ≡ n) × (i < j)) → spot_cmp (spot_at m i) (spot_at n j) ≡ Less
rises m i n j (inl lt) = let body = nat_cmp_is m n Less lt in rw (← body) refl
rises m i n j (inr h) = let body = nat_cmp_is m n Equal h.0 in let place = nat_cmp_is i j Less h.1 in rw (← body, ← place) refl

rising_from : (n : ℕ) (before : List Row) (i : ℕ) (rows : List Row) → IsStrictlySortedBy spot_cmp (open_from n before i rows)
unfolding IsStrictlySortedBy
rising_from n before i [] = tt
rising_from n before i (r ∷ rows) =
    let more = rising_from n (before ++ r ∷ []) (suc i) rows in
    let above = all_from (λ s. spot_cmp (spot_at n i) s ≡ Less) n (before ++ r ∷ []) (suc i) rows (λ k. rises n i n (suc i + k) (inr (refl, omega arith))) in
    elim (cases_Bool (opens n before (Some r))) [
      | inl k ↦ rw k (above, more)
      | inr k ↦ rw k more
    ]

rising_both : (xs ys : List Spot) → IsStrictlySortedBy spot_cmp xs → IsStrictlySortedBy spot_cmp ys → AllByRecursion (λ x. AllByRecursion (λ y. spot_cmp x y ≡ Less) ys) xs → IsStrictlySortedBy spot_cmp (xs ++ ys)
unfolding IsStrictlySortedBy
rising_both [] ys p q apart = q
rising_both (x ∷ xs) ys p q apart = (all_both (λ y. spot_cmp x y ≡ Less) xs ys p.0 apart.0, rising_both xs ys p.1 q apart.1)

rising_of : (n count : ℕ) (rows : List Row) → IsStrictlySortedBy spot_cmp (open_of n count rows)
unfolding IsStrictlySortedBy
rising_of n zero rows = tt
rising_of n (suc count) rows = rising_both (open_from n [] 0 rows) (open_of (suc n) count rows) (rising_from n [] 0 rows) (rising_of (suc n) count rows)
    (all_from (λ x. AllByRecursion (λ y. spot_cmp x y ≡ Less) (open_of (suc n) count rows)) n [] 0 rows
    (λ k. all_of (λ y. spot_cmp (spot_at n (0 + k)) y ≡ Less) (suc n) count rows (λ m i h _. rises n (0 + k) m i (inl (omega (arith, h))))))

-- which spots are among them
module _ (m j : ℕ) where
  abbrev Hits : List Spot → Bool
  Hits xs = list_any (is_at (spot_cmp (spot_at m j))) xs

  miss : (n i : ℕ) → ((m ≡ n) × (j ≡ i) → ⊥) → is_at (spot_cmp (spot_at m j)) (spot_at n i) ≡ false
  miss n i apart = elim (cases_Bool (is_at (spot_cmp (spot_at m j)) (spot_at n i))) [
    | inr k ↦ k
    | inl k ↦ (let same = spot_is (spot_at m j) (spot_at n i) k in absurd (apart (ap (λ s. s.body) same, ap (λ s. s.row) same)))
  ]

  no_hit : (xs : List Spot) → AllByRecursion (λ x. ((m ≡ x.body) × (j ≡ x.row)) → ⊥) xs → Hits xs ≡ false
  no_hit [] all = refl
  no_hit (x ∷ xs) all = let here = miss x.body x.row all.0 in let more = no_hit xs all.1 in rw (here, more) refl

hit_from : (n : ℕ) (before : List Row) (i k : ℕ) (rows : List Row) → Hits n (i + k) (open_from n before i rows) ≡ opens n (before ++ take k rows) (slice_get rows k)
hit_from n before i zero [] = refl
hit_from n before i (suc k) [] = refl
hit_from n before i zero (r ∷ rows) =
    let none = no_hit n (i + 0) (open_from n (before ++ r ∷ []) (suc i) rows) (all_from (λ x. ((n ≡ x.body) × (i + 0 ≡ x.row)) → ⊥) n (before ++ r ∷ []) (suc i) rows (λ k h. absurd (omega (arith, h.1)))) in
    let hit : is_at (spot_cmp (spot_at n (i + 0))) (spot_at n i) ≡ true = subst (λ j. is_at (spot_cmp (spot_at n j)) (spot_at n i) ≡ true) (omega arith) (spot_itself (spot_at n i)) in
    let same = ap (λ before. opens n before (Some r)) (append-nil before) in
    elim (cases_Bool (opens n before (Some r))) [
      | inl k ↦ (let first : Hits n (i + 0) (open_from n before i (r ∷ rows)) ≡ true = rw (k, hit) refl in first ∙ sym k ∙ sym same)
      | inr k ↦ (let first : Hits n (i + 0) (open_from n before i (r ∷ rows)) ≡ false = rw k none in first ∙ sym k ∙ sym same)
    ]
hit_from n before i (suc k) (r ∷ rows) =
    let place : suc i + k ≡ i + suc k = omega arith in
    let more = subst (λ j. Hits n j (open_from n (before ++ r ∷ []) (suc i) rows) ≡ opens n ((before ++ r ∷ []) ++ take k rows) (slice_get rows k)) place (hit_from n (before ++ r ∷ []) (suc i) k rows)
    ∙ ap (λ before. opens n before (slice_get rows k)) (append_assoc before (r ∷ []) (take k rows)) in
    let other : is_at (spot_cmp (spot_at n (i + suc k))) (spot_at n i) ≡ false = miss n (i + suc k) n i (λ h. absurd (omega (arith, h.1))) in
    elim (cases_Bool (opens n before (Some r))) [
      | inl h ↦ (let first : Hits n (i + suc k) (open_from n before i (r ∷ rows)) ≡ Hits n (i + suc k) (open_from n (before ++ r ∷ []) (suc i) rows) = rw (h, other) refl in first ∙ more)
      | inr h ↦ (let first : Hits n (i + suc k) (open_from n before i (r ∷ rows)) ≡ Hits n (i + suc k) (open_from n (before ++ r ∷ []) (suc i) rows) = rw h refl in first ∙ more)
    ]

-- where the body is one of them
hit_of : (n m j count : ℕ) (rows : List Row) → m < count → Hits (n + m) j (open_of n count rows) ≡ is_open_at rows (n + m) j
hit_of n m j zero rows h = absurd (omega (arith, h))
hit_of n zero j (suc count) rows h =
    let later = no_hit (n + 0) j (open_of (suc n) count rows) (all_of (λ x. ((n + 0 ≡ x.body) × (j ≡ x.row)) → ⊥) (suc n) count rows (λ m i h _ k. absurd (omega (arith, h, k.0)))) in
    let body : n ≡ n + 0 = omega arith in
    let place : 0 + j ≡ j = omega arith in
    let here = subst (λ m. Hits m j (open_from n [] 0 rows) ≡ is_open_at rows m j) body (subst (λ k. Hits n k (open_from n [] 0 rows) ≡ is_open_at rows n j) place (hit_from n [] 0 j rows)) in
    list_any-append (is_at (spot_cmp (spot_at (n + 0) j))) (open_from n [] 0 rows) (open_of (suc n) count rows) ∙ rw (here, later) (or-false _)
hit_of n (suc m) j (suc count) rows h =
    let before = no_hit (n + suc m) j (open_from n [] 0 rows) (all_from (λ x. ((n + suc m ≡ x.body) × (j ≡ x.row)) → ⊥) n [] 0 rows (λ k h. absurd (omega (arith, h.0)))) in
    let body : suc n + m ≡ n + suc m = omega arith in
    let more = subst (λ k. Hits k j (open_of (suc n) count rows) ≡ is_open_at rows k j) body (hit_of (suc n) m j count rows (omega (arith, h))) in
    list_any-append (is_at (spot_cmp (spot_at (n + suc m) j))) (open_from n [] 0 rows) (open_of (suc n) count rows) ∙ rw (before, more) refl

-- the keys of the set are the spots of the open rows
module _ (spots : BTreeSet Spot) (bodies : ℕ) (rows : List Row) (ordered : IsOrdered spot_cmp spots) (are_open : AreOpen rows None (contains spot_cmp spots)) (below : AreBelow bodies rows) where
  none_past : (m j : ℕ) → bodies ≤ m → is_open_at rows m j ≡ false
  none_past m j past = at (slice_get rows j) refl
    where
      at : (o : Option Row) → slice_get rows j ≡ o → opens m (take j rows) o ≡ false
      at None e = refl
      at (Some r) e = let lt = below j r e in let apart = differ r.claimed.body m (λ e. absurd (omega (arith, e, lt, past))) in rw apart refl

  hits : (m j : ℕ) → contains spot_cmp spots (spot_at m j) ≡ Hits m j (open_of 0 bodies rows)
  hits m j = are_open m j ∙ or-false _ ∙ sym (elim (cases_lt m bodies) [
    | inl lt ↦ (let zero_more : 0 + m ≡ m = omega arith in subst (λ m. Hits m j (open_of 0 bodies rows) ≡ is_open_at rows m j) zero_more (hit_of 0 m j bodies rows lt))
    | inr past ↦ no_hit m j (open_of 0 bodies rows) (all_of (λ x. ((m ≡ x.body) × (j ≡ x.row)) → ⊥) 0 bodies rows (λ n i _ lt h. absurd (omega (arith, h.0, past, lt)))) ∙ sym (none_past m j past)
  ])

  pub keys_are : spots.keys ≡ open_of 0 bodies rows
  keys_are = btree_set_from_contains spot_total spots (record { keys = open_of 0 bodies rows }) ordered (rising_of 0 bodies rows) (λ s. hits s.body s.row) (λ x y h. spot_is x y (ap is_eq h))
