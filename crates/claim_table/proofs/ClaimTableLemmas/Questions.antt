-- The rows at the spots are the open rows of the definition.
use Rattle.std.proofs.Common.{◌≡◌, ℕ, zero, suc, ◌+◌, Bool, true, false, cond, ◌&&◌, ◌||◌, List, [], ◌∷◌, ◌++◌, length, map, Option, Some, None, refl, sym, ◌∙◌, ap, inl, inr, arith, append_assoc}
use Rattle.std.specs.Prelude.{slice_get, filter, flat_map, not, is_none, ◌==◌}
use Rattle.std.specs.List.{range_with_len}
use Rattle.std.specs.Option.{option_map}
use Rattle.std.specs.BTreeSet.{BTreeSet, IsOrdered, contains}
use Rattle.std.proofs.lemmas.Bool.{cases_Bool}
use Rattle.std.proofs.Math.Bool.{and-false, and-true}
use Rattle.std.proofs.lemmas.List.{length-append, length-map}
use Rattle.std.proofs.lemmas.Option.{slice_get-map}
use Rattle.claim_table.specs.declared.claim_table.row.Row.{Row}
use Rattle.claim_table.specs.declared.claim_table.signature.Signature.{Signature}
use Rattle.claim_table.specs.declared.claim_table.spot.Spot.{Spot}
use Rattle.claim_table.specs.ClaimTable.Keeping.{AreOpen, opens, spot_cmp}
use Rattle.claim_table.specs.ClaimTable.Rows.{first_rows, is_of, is_open_on, is_raised, open_rows, same_signature, signature_of}
use Rattle.claim_table.specs.ClaimTable.Table.{AreBelow}
use Rattle.claim_table.proofs.ClaimTableLemmas.Opening.{keys_are, open_from, open_of}
use Rattle.claim_table.proofs.ClaimTableLemmas.Rows.{same_is, same_itself}

abbrev is_new : List Row → Row → Bool
is_new before q = not (is_raised before (signature_of q.claimed))

same_sym : (s t : Signature) → same_signature s t ≡ same_signature t s
same_sym s t = elim (cases_Bool (same_signature s t)) [
  | inl k ↦ (let is = same_is s t k in k ∙ sym (same_itself s) ∙ ap (λ t. same_signature t s) is)
  | inr k ↦ elim (cases_Bool (same_signature t s)) [
    | inl h ↦ (let is = same_is t s h in let clash : true ≡ false = sym (same_itself s) ∙ ap (same_signature s) (sym is) ∙ k in cc)
    | inr h ↦ k ∙ sym h
  ]
]

raised_end : (before : List Row) (r : Row) (t : Signature) → is_raised (before ++ r ∷ []) t ≡ (is_raised before t || is_of t r)
raised_end [] r t = or_none (is_of t r)
  where
    or_none : (b : Bool) → (b || false) ≡ b
    or_none true = refl
    or_none false = refl
raised_end (q ∷ before) r t = let more = raised_end before r t in elim (cases_Bool (is_of t q)) [ inl k ↦ rw k refl | inr k ↦ rw k more ]

-- what is new after one more row
narrower : (before : List Row) (r : Row) (xs : List Row) → filter (is_new before) (filter (λ q. not (is_of (signature_of r.claimed) q)) xs) ≡ filter (is_new (before ++ r ∷ [])) xs
narrower before r [] = refl
narrower before r (q ∷ xs) =
    let t = signature_of q.claimed in
    by (is_raised before t) (is_of (signature_of r.claimed) q) (is_raised (before ++ r ∷ []) t) refl refl
    (raised_end before r t ∙ ap (λ b. is_raised before t || b) (same_sym (signature_of r.claimed) t)) (narrower before r xs)
  where
    by : (a b c : Bool) → is_raised before (signature_of q.claimed) ≡ a → is_of (signature_of r.claimed) q ≡ b → c ≡ (is_raised before (signature_of q.claimed) || is_of (signature_of r.claimed) q)
        → filter (is_new before) (filter (λ q. not (is_of (signature_of r.claimed) q)) xs) ≡ filter (is_new (before ++ r ∷ [])) xs
        → filter (is_new before) (cond (not (is_of (signature_of r.claimed) q)) (q ∷ filter (λ q. not (is_of (signature_of r.claimed) q)) xs) (filter (λ q. not (is_of (signature_of r.claimed) q)) xs)) ≡ cond (not c) (q ∷ filter (is_new (before ++ r ∷ [])) xs) (filter (is_new (before ++ r ∷ [])) xs)
    by true true c a b e more = let out : c ≡ true = rw a at e in rw (out, b) more
    by true false c a b e more = let out : c ≡ true = rw a at e in rw (out, b, a) more
    by false true c a b e more = let out : c ≡ true = rw (a, b) at e in rw (out, b) more
    by false false c a b e more = let out : c ≡ false = rw (a, b) at e in rw (out, b, a) (ap (λ xs. q ∷ xs) more)

at_seam : {X : Type 0} (xs : List X) (y : X) (ys : List X) → slice_get (xs ++ y ∷ ys) (length xs) ≡ Some y
at_seam [] y ys = refl
at_seam (x ∷ xs) y ys = at_seam xs y ys

-- the rows at the spots of a body
rows_from : (all : List Row) (n : ℕ) (before : List Row) (i : ℕ) (rows : List Row) → all ≡ before ++ rows → i ≡ length before
    → map (λ (s : Spot). slice_get all s.row) (open_from n before i rows) ≡ map (λ r. Some r) (filter (is_open_on n) (filter (is_new before) (first_rows rows)))
rows_from all n before i [] is place = refl
rows_from all n before i (r ∷ rows) is place =
    let long = length-append before (r ∷ []) in
    let more = rows_from all n (before ++ r ∷ []) (suc i) rows (is ∙ sym (append_assoc before (r ∷ []) rows)) (omega (arith, long, place))
    ∙ ap (λ xs. map (λ r. Some r) (filter (is_open_on n) xs)) (sym (narrower before r (first_rows rows))) in
    let here : slice_get all i ≡ Some r = ap (λ all. slice_get all i) is ∙ ap (slice_get (before ++ r ∷ rows)) place ∙ at_seam before r rows in
    elim (cases_Bool (is_raised before (signature_of r.claimed))) [
      | inl old ↦ (let closed : opens n before (Some r) ≡ false = ap (λ b. (r.claimed.body == n) && (is_none r.verdict && not b)) old ∙ ap (λ b. (r.claimed.body == n) && b) (and-false (is_none r.verdict)) ∙ and-false (r.claimed.body == n) in
          rw (closed, old) more)
      | inr new ↦ (let same : opens n before (Some r) ≡ is_open_on n r = ap (λ b. (r.claimed.body == n) && (is_none r.verdict && not b)) new ∙ ap (λ b. (r.claimed.body == n) && b) (and-true (is_none r.verdict)) in
          elim (cases_Bool (is_open_on n r)) [
            | inl k ↦ (let shown = same ∙ k in rw (shown, new, k) (λ j. here j ∷ more j))
            | inr k ↦ (let shown = same ∙ k in rw (shown, new, k) more)
          ])
    ]

filter_new : (xs : List Row) → filter (is_new []) xs ≡ xs
filter_new [] = refl
filter_new (x ∷ xs) = ap (λ xs. x ∷ xs) (filter_new xs)

map_both : {X Y : Type 0} (f : X → Y) (xs ys : List X) → map f (xs ++ ys) ≡ map f xs ++ map f ys
map_both f [] ys = refl
map_both f (x ∷ xs) ys = ap (λ ys. f x ∷ ys) (map_both f xs ys)

rows_of : (rows : List Row) (n count : ℕ) → map (λ (s : Spot). slice_get rows s.row) (open_of n count rows) ≡ map (λ r. Some r) (flat_map (λ n. filter (is_open_on n) (first_rows rows)) (range_with_len n count))
rows_of rows n zero = refl
rows_of rows n (suc count) =
    let first = rows_from rows n [] 0 rows refl refl ∙ ap (λ xs. map (λ r. Some r) (filter (is_open_on n) xs)) (filter_new (first_rows rows)) in
    let next : suc n ≡ n + 1 = omega arith in
    let more = rows_of rows (suc n) count ∙ ap (λ k. map (λ r. Some r) (flat_map (λ n. filter (is_open_on n) (first_rows rows)) (range_with_len k count))) next in
    map_both (λ (s : Spot). slice_get rows s.row) (open_from n [] 0 rows) (open_of (suc n) count rows) ∙ (λ j. first j ++ more j)
    ∙ sym (map_both (λ r. Some r) (filter (is_open_on n) (first_rows rows)) (flat_map (λ n. filter (is_open_on n) (first_rows rows)) (range_with_len (n + 1) count)))

abbrev pub row_at_spot : List Row → Option Spot → Option Row
row_at_spot rows None = None
row_at_spot rows (Some s) = slice_get rows s.row

module _ (spots : BTreeSet Spot) (bodies : ℕ) (rows : List Row) (ordered : IsOrdered spot_cmp spots) (are_open : AreOpen rows None (contains spot_cmp spots)) (below : AreBelow bodies rows) where
  pub count_is : length spots.keys ≡ length (open_rows bodies rows)
  count_is =
      let keys = ap length (keys_are spots bodies rows ordered are_open below) in
      let a = length-map (open_of 0 bodies rows) (λ (s : Spot). slice_get rows s.row) in
      let b = length-map (open_rows bodies rows) (λ r. Some r) in let c = ap length (rows_of rows 0 bodies) in omega (arith, keys, a, b, c)

  pub row_is : (n : ℕ) → row_at_spot rows (slice_get spots.keys n) ≡ slice_get (open_rows bodies rows) n
  row_is n = ap (λ keys. row_at_spot rows (slice_get keys n)) (keys_are spots bodies rows ordered are_open below)
      ∙ by (slice_get (open_of 0 bodies rows) n) (slice_get (open_rows bodies rows) n)
      (sym (slice_get-map (λ (s : Spot). slice_get rows s.row) (open_of 0 bodies rows) n) ∙ ap (λ xs. slice_get xs n) (rows_of rows 0 bodies) ∙ slice_get-map (λ r. Some r) (open_rows bodies rows) n)
    where
      by : (s : Option Spot) (r : Option Row) → option_map (λ (s : Spot). slice_get rows s.row) s ≡ option_map (λ r. Some r) r → row_at_spot rows s ≡ r
      by None None e = refl
      by None (Some r) e = cc
      by (Some s) None e = cc
      by (Some s) (Some r) e = cc
