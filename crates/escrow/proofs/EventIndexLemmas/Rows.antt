-- What rising numbers tell of rows, where each row that is meant is among them.
use Rattle.std.proofs.Common.{◌≡◌, ℕ, ◌+◌, ◌<◌, Bool, true, false, List, [], ◌∷◌, ◌++◌, length, map, zero, suc, refl, append-nil, sym, ap, ◌∙◌, arith, inl, inr, Option, Some, None}
use Rattle.std.specs.Prelude.{◌↔◌, Contains, filter, filter_map, find, reverse, slice_get}
use Rattle.std.specs.List.{range_with_len, cons_option}
use Rattle.std.specs.List.Sorted.{IsStrictlyIncreasing}
use Rattle.std.specs.Option.{option_and_then}
use Rattle.std.proofs.lemmas.Bool.{cases_Bool}
use Rattle.std.proofs.lemmas.List.{reverse-append}
use Rattle.std.proofs.lemmas.List.Elements.{filter-append, filter_map-append}
use Rattle.std.proofs.lemmas.List.FromFn.{length-range_with_len, get_or-range_with_len}
use Rattle.std.proofs.lemmas.List.Kept.{IsStrictlyIncreasing-filter}
use Rattle.escrow.specs.EventIndex.Rows.{is_row, numbers_of, HasRows}
use Rattle.escrow.proofs.EventIndexLemmas.Orders.{Contains-cons, Contains-filter}
use Rattle.escrow.proofs.EventIndexLemmas.Same.{rising_same}

-- the first that passes a test, of a list and of what passes
find-filter : {X : Type 0} (p : X → Bool) (xs : List X) → find p xs ≡ slice_get (filter p xs) 0
find-filter p [] = refl
find-filter p (x ∷ xs) = elim (cases_Bool (p x)) [ inl t ↦ rw t refl | inr f ↦ rw f (find-filter p xs) ]

reverse-cons : {X : Type 0} (x : X) (xs : List X) → reverse (x ∷ xs) ≡ reverse xs ++ x ∷ []
reverse-cons x xs = reverse-append (x ∷ []) xs

filter-reverse : {X : Type 0} (p : X → Bool) (xs : List X) → filter p (reverse xs) ≡ reverse (filter p xs)
filter-reverse p [] = refl
filter-reverse p (x ∷ xs) =
    let whole = ap (filter p) (reverse-cons x xs) ∙ filter-append p (reverse xs) (x ∷ []) ∙ ap (λ ys. ys ++ filter p (x ∷ [])) (filter-reverse p xs) in
    elim (cases_Bool (p x)) [
      | inl t ↦ whole ∙ rw t (sym (reverse-cons x (filter p xs)))
      | inr f ↦ whole ∙ rw f (append-nil (reverse (filter p xs)))
    ]

filter_map-reverse : {X Y : Type 0} (h : X → Option Y) (xs : List X) → filter_map h (reverse xs) ≡ reverse (filter_map h xs)
filter_map-reverse h [] = refl
filter_map-reverse {Y = Y} h (x ∷ xs) =
    ap (filter_map h) (reverse-cons x xs) ∙ filter_map-append h (reverse xs) (x ∷ []) ∙ ap (λ ys. ys ++ filter_map h (x ∷ [])) (filter_map-reverse h xs) ∙ last (h x)
  where
    last : (o : Option Y) → reverse (filter_map h xs) ++ cons_option o [] ≡ reverse (cons_option o (filter_map h xs))
    last None = append-nil (reverse (filter_map h xs))
    last (Some y) = sym (reverse-cons y (filter_map h xs))

filter-map : {X Y : Type 0} (p : Y → Bool) (f : X → Y) (xs : List X) → filter p (map f xs) ≡ map f (filter (λ x. p (f x)) xs)
filter-map p f [] = refl
filter-map p f (x ∷ xs) = elim (cases_Bool (p (f x))) [ inl t ↦ rw t (ap (λ ys. f x ∷ ys) (filter-map p f xs)) | inr n ↦ rw n (filter-map p f xs) ]

filter_map-map : {X Y Z : Type 0} (h : Y → Option Z) (f : X → Y) (xs : List X) → filter_map h (map f xs) ≡ filter_map (λ x. h (f x)) xs
filter_map-map h f [] = refl
filter_map-map h f (x ∷ xs) = ap (cons_option (h (f x))) (filter_map-map h f xs)

range-suc : (a n : ℕ) → range_with_len (a + 1) n ≡ map suc (range_with_len a n)
range-suc a zero = refl
range-suc a (suc n) = let one : a + 1 ≡ suc a = omega arith in λ i. one i ∷ range-suc (a + 1) n i

Contains-range : (n i : ℕ) → Contains (range_with_len 0 n) i ↔ (i < n)
Contains-range n i = (
  λ h. let long = length-range_with_len 0 n in let at = get_or-range_with_len 0 n h.0 i (omega (arith, long, h.1)) in omega (arith, long, at, h.1, h.2),
  λ lt. let long = length-range_with_len 0 n in let at = get_or-range_with_len 0 n i i lt in (i, omega (arith, long, lt), omega (arith, at)),
)

range-rising : (n : ℕ) → IsStrictlyIncreasing (range_with_len 0 n)
range-rising n k more =
    let long = length-range_with_len 0 n in
    let one = get_or-range_with_len 0 n k 0 (omega (arith, long, more)) in
    let two = get_or-range_with_len 0 n (k + 1) 0 (omega (arith, long, more)) in
    omega (arith, one, two)

-- a number at which the test holds is that of a row
row_at : {X : Type 0} (test : X → Bool) (rows : List X) (n : ℕ) → is_row test rows n ≡ true → (row : X) × (slice_get rows n ≡ Some row) × (test row ≡ true) × (n < length rows)
row_at test [] n t = absurd (no t)
  where
    no : false ≡ true → ⊥
    no e = cc e
row_at test (row ∷ rows) zero t = (row, refl, t, omega arith)
row_at test (row ∷ rows) (suc n) t = let more = row_at test rows n t in (more.0, more.1, more.2, omega (arith, more.3))

-- the rows of their numbers
rows_of : {X : Type 0} (test : X → Bool) (rows : List X) → filter_map (slice_get rows) (numbers_of test rows) ≡ filter test rows
rows_of test [] = refl
rows_of test (row ∷ rows) =
    let later : filter (is_row test (row ∷ rows)) (range_with_len 1 (length rows)) ≡ map suc (numbers_of test rows)
    = ap (filter (is_row test (row ∷ rows))) (range-suc 0 (length rows)) ∙ filter-map (is_row test (row ∷ rows)) suc (range_with_len 0 (length rows)) in
    let those : filter_map (slice_get (row ∷ rows)) (map suc (numbers_of test rows)) ≡ filter test rows
    = filter_map-map (slice_get (row ∷ rows)) suc (numbers_of test rows) ∙ rows_of test rows in
    elim (cases_Bool (test row)) [
      | inl t ↦ rw t (ap (λ ys. row ∷ ys) (ap (filter_map (slice_get (row ∷ rows))) later ∙ those))
      | inr f ↦ rw f (ap (filter_map (slice_get (row ∷ rows))) later ∙ those)
    ]

-- where each number is that of a row, the first row is that of the first number
first_of : {X : Type 0} (rows : List X) (ns : List ℕ) → ((n : ℕ) → Contains ns n → (row : X) × (slice_get rows n ≡ Some row)) → slice_get (filter_map (slice_get rows) ns) 0 ≡ option_and_then (slice_get rows) (slice_get ns 0)
first_of rows [] known = refl
first_of rows (n ∷ ns) known = let row = known n ((Contains-cons n ns n).1 (inl refl)) in let is = row.1 in rw is refl

module _ {X : Type 0} (test : X → Bool) (rows : List X) (numbers : List ℕ) (has : HasRows test rows numbers) where
  -- of the numbers those of the rows that are meant, in order
  pub filter-numbers : filter (is_row test rows) numbers ≡ numbers_of test rows
  filter-numbers = rising_same _ _ (IsStrictlyIncreasing-filter (is_row test rows) numbers has.rising) (IsStrictlyIncreasing-filter (is_row test rows) (range_with_len 0 (length rows)) (range-rising (length rows)))
      (λ n. (
        λ h. let t = ((Contains-filter (is_row test rows) numbers n).0 h).0 in (Contains-filter (is_row test rows) (range_with_len 0 (length rows)) n).1 (t, (Contains-range (length rows) n).1 (row_at test rows n t).3),
        λ h. let t = ((Contains-filter (is_row test rows) (range_with_len 0 (length rows)) n).0 h).0 in let row = row_at test rows n t in (Contains-filter (is_row test rows) numbers n).1 (t, has.each n row.0 row.1 row.2),
      ))

  -- all rows that are meant, in order
  pub filter_map-numbers : filter_map (slice_get rows) (filter (is_row test rows) numbers) ≡ filter test rows
  filter_map-numbers = ap (filter_map (slice_get rows)) filter-numbers ∙ rows_of test rows

  -- the first number of a row that is meant
  pub find-numbers : find (is_row test rows) numbers ≡ slice_get (numbers_of test rows) 0
  find-numbers = find-filter (is_row test rows) numbers ∙ ap (λ ns. slice_get ns 0) filter-numbers

  -- the last number of a row that is meant
  pub find-numbers_back : find (is_row test rows) (reverse numbers) ≡ slice_get (reverse (numbers_of test rows)) 0
  find-numbers_back = find-filter (is_row test rows) (reverse numbers) ∙ ap (λ ns. slice_get ns 0) (filter-reverse (is_row test rows) numbers ∙ ap reverse filter-numbers)

  known : (n : ℕ) → Contains (filter (is_row test rows) numbers) n → (row : X) × (slice_get rows n ≡ Some row)
  known n h = let row = row_at test rows n ((Contains-filter (is_row test rows) numbers n).0 h).0 in (row.0, row.1)

  -- the first row that is meant
  pub find-rows : option_and_then (slice_get rows) (find (is_row test rows) numbers) ≡ find test rows
  find-rows = ap (option_and_then (slice_get rows)) (find-filter (is_row test rows) numbers)
      ∙ sym (first_of rows (filter (is_row test rows) numbers) known)
      ∙ ap (λ xs. slice_get xs 0) filter_map-numbers
      ∙ sym (find-filter test rows)

  -- the last row that is meant
  pub find-rows_back : option_and_then (slice_get rows) (find (is_row test rows) (reverse numbers)) ≡ find test (reverse rows)
  find-rows_back = ap (option_and_then (slice_get rows)) (find-filter (is_row test rows) (reverse numbers))
      ∙ sym (first_of rows (filter (is_row test rows) (reverse numbers)) (λ n h. let row = row_at test rows n ((Contains-filter (is_row test rows) (reverse numbers) n).0 h).0 in (row.0, row.1)))
      ∙ ap (λ xs. slice_get xs 0) (ap (filter_map (slice_get rows)) (filter-reverse (is_row test rows) numbers) ∙ filter_map-reverse (slice_get rows) (filter (is_row test rows) numbers) ∙ ap reverse filter_map-numbers ∙ sym (filter-reverse test rows))
      ∙ sym (find-filter test (reverse rows))
