-- The entries of a body, in the order of their parts.
use Rattle.std.proofs.Common.{◌≡◌, ℕ, zero, suc, ◌+◌, ◌-◌, ◌<◌, ◌≤◌, Bool, true, false, cond, [], ◌∷◌, length, get_or, set, Option, Some, None, Result, Ok, Err, IfOk, IfErr, refl, sym, ◌∙◌, ap, subst, inl, inr, arith}
use Rattle.std.specs.Prelude.{slice_get, is_some, count_by, ◌==◌}
use Rattle.std.specs.BTreeMap.{is_at}
use Rattle.std.specs.Cmp.{IsTotalOrder}
use Rattle.std.specs.List.{AllByRecursion, IsDistinct, insert}
use Rattle.std.specs.List.Sorted.{IsBinarySearchResult, IsNonDecreasingBy, IsSearchInRange, IsStrictlySortedBy}
use Rattle.std.specs.Map.{keys_of, set_value}
use Rattle.std.specs.Ordering.{eq_by_cmp, is_eq, is_lt, ordering_index, ordering_reverse}
use Rattle.std.specs.declared.cmp.Ordering.TheVariants.{Less}
use Rattle.std.proofs.Math.Bool.{and-false}
use Rattle.std.proofs.Math.ListN.{get_or-map}
use Rattle.std.proofs.lemmas.Bool.{cases_Bool}
use Rattle.std.proofs.lemmas.Bool.Decides.{nat_tests}
use Rattle.std.proofs.lemmas.Cmp.{eq_by_cmp_equiv, tied_itself}
use Rattle.std.proofs.lemmas.List.Sorted.{IsPermutation-insert, searchable_from_sorted, sum_by-IsPermutation}
use Rattle.std.proofs.lemmas.Map.{keys-set_value, lookup-insert, lookup-set_value, none_passes_from_lookup}
use Rattle.std.proofs.lemmas.Map.Entries.{length-keys_of, lookup_at_gap, lookup_from_place}
use Rattle.std.proofs.lemmas.Map.Keys.{IsDistinct-from_sorted, IsDistinct-head, IsDistinct-tail, Less-from_sorted}
use Rattle.std.proofs.lemmas.Option.{get_or_from_slice_get, slice_get-get_or, slice_get_within}
use Rattle.claim_table.specs.contracts.claim_table.part.PartOrd.TheImpl.Laws as part_laws
use Rattle.claim_table.specs.declared.claim_table.part.Part.{Part}
use Rattle.claim_table.specs.declared.claim_table.part.Part.TheVariants.{Indexed, Revealed, Backed}
use Rattle.claim_table.specs.ClaimTable.Entries.{Entries, IsGapFor, IsPlaceOf, backer_count, backs, bit, or_zero, part_cmp, part_entry, same_part}
use Rattle.claim_table.specs.ClaimTable.Parts.{is_backer}
use Rattle.claim_table.proofs.ClaimTableLemmas.Lists.{count_at, count_cons, set_at_place}

pub total : IsTotalOrder part_cmp
total = part_laws.total-law

-- the order tells parts apart
pub same_is : (p q : Part) → is_at (part_cmp p) q ≡ same_part p q
same_is (Indexed m) (Indexed n) = grind (arith, nat_tests)
same_is (Indexed m) (Revealed n) = refl
same_is (Indexed m) (Backed n) = refl
same_is (Revealed m) (Indexed n) = refl
same_is (Revealed m) (Revealed n) = grind (arith, nat_tests)
same_is (Revealed m) (Backed n) = refl
same_is (Backed m) (Indexed n) = refl
same_is (Backed m) (Revealed n) = refl
same_is (Backed m) (Backed n) = grind (arith, nat_tests)

numbers : (m n : ℕ) → (m == n) ≡ true → m ≡ n
numbers m n h = grind (arith, nat_tests, h)

pub parts_are : (p q : Part) → same_part p q ≡ true → p ≡ q
parts_are (Indexed m) (Indexed n) h = ap Indexed (numbers m n h)
parts_are (Indexed m) (Revealed n) h = cc
parts_are (Indexed m) (Backed n) h = cc
parts_are (Revealed m) (Indexed n) h = cc
parts_are (Revealed m) (Revealed n) h = ap Revealed (numbers m n h)
parts_are (Revealed m) (Backed n) h = cc
parts_are (Backed m) (Indexed n) h = cc
parts_are (Backed m) (Revealed n) h = cc
parts_are (Backed m) (Backed n) h = ap Backed (numbers m n h)

-- a part is found at its place, and isn't where it has a gap
pub found : (es : Entries) (part : Part) (place n : ℕ) → IsStrictlySortedBy part_cmp (keys_of es) → slice_get es place ≡ Some (part, n) → part_entry es part ≡ Some n
found es part place n sorted at = lookup_from_place (eq_by_cmp_equiv total) es place part n (IsDistinct-from_sorted part_cmp (keys_of es) sorted) at

pub absent : (es : Entries) (part : Part) (place : ℕ) → IsStrictlySortedBy part_cmp (keys_of es) → IsGapFor es part place → part_entry es part ≡ None
absent es part place sorted gap = lookup_at_gap total part es place sorted gap.before (λ e at. gap.behind place e (omega arith) at)

-- where a part has no entry, there is nothing to take from its count
pub none_to_uncount : (es : Entries) (part : Part) → part_entry es part ≡ None → (q : Part) → or_zero (part_entry es q) ≡ or_zero (part_entry es q) - bit (same_part part q)
none_to_uncount es part none q = elim (cases_Bool (same_part part q)) [
  | inl y ↦ (let zero_then = ap or_zero (ap (part_entry es) (sym (parts_are part q y)) ∙ none) in omega (arith, zero_then))
  | inr k ↦ (let is = ap bit k in omega (arith, is))
]

-- the entry that is read at the place of a part
pub read_is : (es : Entries) (part : Part) (place n : ℕ) (e : Part × ℕ) → slice_get es place ≡ Some (part, n) → e ≡ get_or es place e → e ≡ (part, n)
read_is es part place n e at is = is ∙ get_or_from_slice_get es place (part, n) e at

-- the comparisons with a part rise along the entries
searchable : (es : Entries) (part : Part) → IsStrictlySortedBy part_cmp (keys_of es) → IsNonDecreasingBy (λ e. ordering_index (part_cmp e.0 part)) es
searchable es part sorted = searchable_from_sorted total (λ e. e.0) es part (λ k d low high.
    let long = length-keys_of es in
    let less = Less-from_sorted part_cmp (keys_of es) k (k + 1) d.0 sorted (omega arith) (omega (arith, high, long)) in
    let first = get_or-map (λ (e : Part × ℕ). e.0) es k d in let next = get_or-map (λ (e : Part × ℕ). e.0) es (k + 1) d in
    ap is_lt (total.antisymm (get_or es (k + 1) d).0 (get_or es k d).0 ∙ ap ordering_reverse (sym (λ i. part_cmp (first i) (next i)) ∙ less)))

-- a binary search ends at the place of the part, or at its gap
pub searched : (es : Entries) (part : Part) (r : Result ℕ ℕ) → IsStrictlySortedBy part_cmp (keys_of es) → IsSearchInRange r (length es) → IsBinarySearchResult (λ e. part_cmp e.0 part) es r
    → record { found : IfOk r (IsPlaceOf es part); absent : IfErr r (IsGapFor es part) }
searched es part (Ok place) sorted within equal =
    let e = get_or es place (part, 0) in
    let is = parts_are e.0 part (sym (same_is e.0 part) ∙ ap is_eq (equal (part, 0))) in
    record { found = (e.1, slice_get-get_or es place (part, 0) within ∙ ap (λ p. Some (p, e.1)) is); absent = tt }
searched es part (Err place) sorted within parted = record {
  found = tt;
  absent = record {
    within = within;
    before = λ i e lt at. total.antisymm part e.0 ∙ ap ordering_reverse (ap (λ (x : Part × ℕ). part_cmp x.0 part) (sym (get_or_from_slice_get es i e e at)) ∙ (parted (searchable es part sorted)).0 i e (omega arith) lt);
    behind = λ i e le at. total.antisymm part e.0 ∙ ap ordering_reverse (ap (λ (x : Part × ℕ). part_cmp x.0 part) (sym (get_or_from_slice_get es i e e at)) ∙ (parted (searchable es part sorted)).1 i e le (slice_get_within es i e at));
  };
}

-- what is true of each part is true of the one at a place
key_at : (P : Part → Type 0) (es : Entries) (part : Part) (place n : ℕ) → AllByRecursion P (keys_of es) → slice_get es place ≡ Some (part, n) → P part
key_at P [] part place n all at = cc
key_at P (e ∷ es) part zero n all at = let is : e ≡ (part, n) = cc in subst (λ (x : Part × ℕ). P x.0) is all.0
key_at P (e ∷ es) part (suc place) n all at = key_at P es part place n all.1 at

-- another count at the place of a part is another count of the part
set_is : (es : Entries) (part : Part) (place n w : ℕ) → IsDistinct (eq_by_cmp part_cmp) (keys_of es) → slice_get es place ≡ Some (part, n) → set es place (part, w) ≡ set_value (is_at (part_cmp part)) es w
set_is [] part place n w once at = refl
set_is (e ∷ es) part zero n w once at =
    let is : e ≡ (part, n) = cc in
    let here : is_at (part_cmp part) e.0 ≡ true = ap (λ (x : Part × ℕ). is_at (part_cmp part) x.0) is ∙ ap is_eq (tied_itself total part) in
    rw here (ap (λ (x : Part × ℕ). (x.0, w) ∷ es) (sym is))
set_is (e ∷ es) part (suc place) n w once at =
    let other = key_at (λ q. eq_by_cmp part_cmp e.0 q ≡ false) es part place n (IsDistinct-head (eq_by_cmp part_cmp) e.0 (keys_of es) once) at in
    let apart : is_at (part_cmp part) e.0 ≡ false = (eq_by_cmp_equiv total).symm part e.0 ∙ other in
    rw apart (ap (λ xs. e ∷ xs) (set_is es part place n w (IsDistinct-tail (eq_by_cmp part_cmp) e.0 (keys_of es) once) at))

module _ (es : Entries) (part : Part) (place n : ℕ) (sorted : IsStrictlySortedBy part_cmp (keys_of es)) (at : slice_get es place ≡ Some (part, n)) where
  set_value_is : (w : ℕ) → set es place (part, w) ≡ set_value (is_at (part_cmp part)) es w
  set_value_is w = set_is es part place n w (IsDistinct-from_sorted part_cmp (keys_of es) sorted) at

  pub sorted_set : (w : ℕ) → IsStrictlySortedBy part_cmp (keys_of (set es place (part, w)))
  sorted_set w = subst (IsStrictlySortedBy part_cmp) (sym (ap keys_of (set_value_is w) ∙ keys-set_value (is_at (part_cmp part)) es w)) sorted

  entry_set : (w : ℕ) (q : Part) → part_entry (set es place (part, w)) q ≡ cond (same_part part q) (Some w) (part_entry es q)
  entry_set w q =
      ap (λ xs. part_entry xs q) (set_value_is w) ∙ lookup-set_value (eq_by_cmp_equiv total) (is_at (part_cmp part)) (λ x y h. (eq_by_cmp_equiv total).congr part x y h) q w es (ap is_some (found es part place n sorted at))
      ∙ ap (λ b. cond b (Some w) (part_entry es q)) (same_is part q)

  pub entry_here : (q : Part) → same_part part q ≡ true → part_entry es q ≡ Some n
  entry_here q h = ap (part_entry es) (sym (parts_are part q h)) ∙ found es part place n sorted at

  -- what is true of the new entry of the part beside the old one, and of an entry beside itself
  set_so : (P : Bool → Option ℕ → Option ℕ → Type 0) (w : ℕ) → P true (Some n) (Some w) → ((o : Option ℕ) → P false o o) → (q : Part) → P (same_part part q) (part_entry es q) (part_entry (set es place (part, w)) q)
  set_so P w here apart q = elim (cases_Bool (same_part part q)) [
    | inl y ↦ (let now = entry_set w q ∙ ap (λ b. cond b (Some w) (part_entry es q)) y in let old = entry_here q y in
        subst (λ b. P b (part_entry es q) (part_entry (set es place (part, w)) q)) (sym y) (subst (λ o. P true o (part_entry (set es place (part, w)) q)) (sym old) (subst (λ o. P true (Some n) o) (sym now) here)))
    | inr k ↦ (let now = entry_set w q ∙ ap (λ b. cond b (Some w) (part_entry es q)) k in
        subst (λ b. P b (part_entry es q) (part_entry (set es place (part, w)) q)) (sym k) (subst (λ o. P false (part_entry es q) o) (sym now) (apart (part_entry es q))))
  ]

  pub counted : (q : Part) → or_zero (part_entry (set es place (part, n + 1)) q) ≡ or_zero (part_entry es q) + bit (same_part part q)
  counted = set_so (λ b old new. or_zero new ≡ or_zero old + bit b) (n + 1) refl (λ o. omega arith)

  pub uncounted : (w : ℕ) → w ≡ n - 1 → (q : Part) → or_zero (part_entry (set es place (part, w)) q) ≡ or_zero (part_entry es q) - bit (same_part part q)
  uncounted w h = set_so (λ b old new. or_zero new ≡ or_zero old - bit b) w h (λ o. omega arith)

  pub still_entered : (w : ℕ) (q : Part) → is_some (part_entry (set es place (part, w)) q) ≡ is_some (part_entry es q)
  still_entered w = set_so (λ b old new. is_some new ≡ is_some old) w refl (λ o. refl)

-- the backers, where one entry changes
pub backers_set : (es : Entries) (place : ℕ) (old new : Part × ℕ) → slice_get es place ≡ Some old → backer_count (set es place new) + bit (backs old) ≡ backer_count es + bit (backs new)
backers_set es place old new at = ap (λ xs. count_by backs xs + bit (backs old)) (set_at_place (λ (x : Part × ℕ). new) es place old new at refl) ∙ count_at backs (λ (x : Part × ℕ). new) es place old at

-- a part that has a gap has no entry: one is put in, and counts nothing
module _ (es : Entries) (part : Part) (place : ℕ) (sorted : IsStrictlySortedBy part_cmp (keys_of es)) (gap : IsGapFor es part place) where
  entry_insert : (q : Part) → part_entry (insert es place (part, 0)) q ≡ cond (same_part part q) (Some 0) (part_entry es q)
  entry_insert q =
      lookup-insert (eq_by_cmp_equiv total) part 0 q es place (none_passes_from_lookup (is_at (part_cmp part)) es (absent es part place sorted gap)) ∙ ap (λ b. cond b (Some 0) (part_entry es q)) (same_is part q)

  pub entered : (q : Part) → same_part part q ≡ true → is_some (part_entry (insert es place (part, 0)) q) ≡ true
  entered q h = ap is_some (entry_insert q ∙ ap (λ b. cond b (Some 0) (part_entry es q)) h)

  pub same_amounts : (q : Part) → or_zero (part_entry (insert es place (part, 0)) q) ≡ or_zero (part_entry es q)
  same_amounts q = elim (cases_Bool (same_part part q)) [
    | inl y ↦ (let none = ap (part_entry es) (sym (parts_are part q y)) ∙ absent es part place sorted gap in ap or_zero (entry_insert q ∙ ap (λ b. cond b (Some 0) (part_entry es q)) y) ∙ sym (ap or_zero none))
    | inr k ↦ ap or_zero (entry_insert q ∙ ap (λ b. cond b (Some 0) (part_entry es q)) k)
  ]

  pub more_entered : (q : Part) → is_some (part_entry es q) ≡ true → is_some (part_entry (insert es place (part, 0)) q) ≡ true
  more_entered q h = elim (cases_Bool (same_part part q)) [ inl y ↦ entered q y | inr k ↦ ap is_some (entry_insert q ∙ ap (λ b. cond b (Some 0) (part_entry es q)) k) ∙ h ]

  pub backers_insert : backer_count (insert es place (part, 0)) ≡ backer_count es
  backers_insert =
      let x : Part × ℕ = (part, 0) in let moved = sum_by-IsPermutation (λ e. cond (backs e) 1 0) (x ∷ es) (insert es place x) (IsPermutation-insert es place x) in
      let all = count_cons backs x es in let none = ap bit (and-false (is_backer part)) in omega (arith, moved, all, none)

all_keys : (P : Part → Type 0) (es : Entries) → ((i : ℕ) (e : Part × ℕ) → slice_get es i ≡ Some e → P e.0) → AllByRecursion P (keys_of es)
all_keys P [] h = tt
all_keys P (e ∷ es) h = (h 0 e refl, all_keys P es (λ i x at. h (suc i) x at))

all_insert : (P : Part → Type 0) (es : Entries) (place : ℕ) (x : Part × ℕ) → AllByRecursion P (keys_of es) → P x.0 → AllByRecursion P (keys_of (insert es place x))
all_insert P es zero x all this = (this, all)
all_insert P [] (suc place) x all this = (this, tt)
all_insert P (e ∷ es) (suc place) x all this = (all.0, all_insert P es place x all.1 this)

sorted_between : (es : Entries) (part : Part) (place n : ℕ) → IsStrictlySortedBy part_cmp (keys_of es) → ((i : ℕ) (e : Part × ℕ) → i < place → slice_get es i ≡ Some e → part_cmp e.0 part ≡ Less)
    → ((i : ℕ) (e : Part × ℕ) → place ≤ i → slice_get es i ≡ Some e → part_cmp part e.0 ≡ Less) → IsStrictlySortedBy part_cmp (keys_of (insert es place (part, n)))
unfolding IsStrictlySortedBy
sorted_between es part zero n sorted before behind = (all_keys (λ q. part_cmp part q ≡ Less) es (λ i e at. behind i e (omega arith) at), sorted)
sorted_between [] part (suc place) n sorted before behind = (tt, tt)
sorted_between (e ∷ es) part (suc place) n sorted before behind =
    (all_insert (λ q. part_cmp e.0 q ≡ Less) es place (part, n) sorted.0 (before 0 e (omega arith) refl), sorted_between es part place n sorted.1 (λ i x lt at. before (suc i) x (omega (arith, lt)) at) (λ i x le at. behind (suc i) x (omega (arith, le)) at))

pub sorted_insert : (es : Entries) (part : Part) (place n : ℕ) → IsStrictlySortedBy part_cmp (keys_of es) → IsGapFor es part place → IsStrictlySortedBy part_cmp (keys_of (insert es place (part, n)))
sorted_insert es part place n sorted gap = sorted_between es part place n sorted (λ i e lt at. total.antisymm e.0 part ∙ ap ordering_reverse (gap.before i e lt at)) gap.behind
