-- What hints say while rows are raised, cut and heard.
use Rattle.std.proofs.Common.{◌≡◌, ℕ, zero, suc, ◌<◌, ◌≤◌, Bool, true, false, List, [], ◌∷◌, ◌++◌, length, take, Option, Some, None, refl, sym, ◌∙◌, ap, subst, inl, inr, arith}
use Rattle.std.specs.Prelude.{slice_get, slice_index_or, Contains, min}
use Rattle.std.specs.List.Sorted.{IsStrictlyIncreasing}
use Rattle.std.proofs.lemmas.Map.Keys.{below_from_sorted, sorted_from_strictly_increasing}
use Rattle.std.proofs.lemmas.Bool.{cases_Bool, cases_eq, cases_lt}
use Rattle.std.proofs.lemmas.List.{length-take}
use Rattle.std.proofs.lemmas.List.Elements.{Contains-append_cases}
use Rattle.std.proofs.lemmas.Option.{slice_get_within}
use Rattle.claim_table.specs.ClaimTable.BodyParts.{BodyPart}
use Rattle.claim_table.specs.declared.claim_table.row.Row.{Row}
use Rattle.claim_table.specs.declared.claim_table.signature.Signature.{Signature}
use Rattle.claim_table.specs.ClaimTable.Keeping.{AreEntered, AreHinted, IsFirstOf, IsLeast, is_of_at, lesser}
use Rattle.claim_table.specs.ClaimTable.Parts.{brings}
use Rattle.claim_table.specs.ClaimTable.Rows.{is_of, is_raised, signature_of, with_verdicts}
use Rattle.claim_table.proofs.ClaimTableLemmas.Lists.{any_none}
use Rattle.lists.proofs.ListsLemmas.Places.{at_end, not_at_end, of_front}
use Rattle.claim_table.proofs.ClaimTableLemmas.Rows.{same_is, set_at, set_claimed}

-- within a list no default counts
pub default : (numbers : List ℕ) (k d e : ℕ) → k < length numbers → slice_index_or numbers k d ≡ slice_index_or numbers k e
default [] k d e h = absurd (omega (arith, h))
default (n ∷ numbers) zero d e h = refl
default (n ∷ numbers) (suc k) d e h = default numbers k d e (omega (arith, h))

-- of numbers that rise, the first that passes is the least that does
pub least : (test : ℕ → Bool) (numbers : List ℕ) (k : ℕ) → IsStrictlyIncreasing numbers → k < length numbers → ((j n : ℕ) → j < k → slice_index_or numbers j n ≡ n → test n ≡ false)
    → (m : ℕ) → Contains numbers m → test m ≡ true → slice_index_or numbers k 0 ≤ m
least test numbers k rising within none m has of = elim (cases_lt has.0 k) [
  | inl before ↦ (let e : true ≡ false = sym of ∙ none has.0 m before has.2 in cc)
  | inr after ↦ (let one = default numbers k 0 m within in elim (cases_eq has.0 k) [
    | inl same ↦ (let two : slice_index_or numbers k m ≡ m = ap (λ k. slice_index_or numbers k m) (sym same) ∙ has.2 in omega (arith, one, two))
    | inr other ↦ (let less = below_from_sorted numbers k has.0 m (sorted_from_strictly_increasing numbers rising) (omega (arith, after, other)) has.1 in omega (arith, one, less, has.2))
  ])
]

-- the least of two lists that passes is the lesser of the least of each
pub least_of_both : (test : ℕ → Bool) (few many : List ℕ) (first second : Option ℕ) → IsLeast test few first → IsLeast test many second → IsLeast test (few ++ many) (lesser first second)
least_of_both test few many None None a b = λ n h. elim (Contains-append_cases few many n h) [ inl f ↦ a n f | inr m ↦ b n m ]
least_of_both test few many None (Some n) a b = (b.0, λ m h of. elim (Contains-append_cases few many m h) [ inl f ↦ (let no = a m f in cc) | inr k ↦ b.1 m k of ])
least_of_both test few many (Some m) None a b = (a.0, λ n h of. elim (Contains-append_cases few many n h) [ inl f ↦ a.1 n f of | inr k ↦ (let no = b n k in cc) ])
least_of_both test few many (Some m) (Some n) a b = elim (cases_lt m n) [
  | inl lt ↦ (let is : min m n ≡ m = omega (arith, lt) in (ap test is ∙ a.0, λ k h of. elim (Contains-append_cases few many k h) [ inl f ↦ (let le = a.1 k f of in omega (arith, is, le)) | inr l ↦ (let le = b.1 k l of in omega (arith, is, lt, le)) ]))
  | inr ge ↦ (let is : min m n ≡ n = omega (arith, ge) in (ap test is ∙ b.0, λ k h of. elim (Contains-append_cases few many k h) [ inl f ↦ (let le = a.1 k f of in omega (arith, is, ge, le)) | inr l ↦ (let le = b.1 k l of in omega (arith, is, le)) ]))
]

-- the places of the rows of a signature are among its numbers
pub all_hinted : (rows : List Row) (hint : Signature → List ℕ) (s : Signature) → AreHinted rows hint → (i : ℕ) → is_of_at s (slice_get rows i) ≡ true → Contains (hint s) i
all_hinted rows hint s hinted i of = by (slice_get rows i) refl of
  where
    by : (o : Option Row) → slice_get rows i ≡ o → is_of_at s o ≡ true → Contains (hint s) i
    by None e h = cc
    by (Some r) e h = subst (λ t. Contains (hint t) i) (same_is (signature_of r.claimed) s h) (hinted i r e)

-- the least place of a row of the signature is that of the first
pub found_first : (rows : List Row) (hint : Signature → List ℕ) (s : Signature) (o : Option ℕ) → AreHinted rows hint → IsLeast (λ i. is_of_at s (slice_get rows i)) (hint s) o → IsFirstOf rows s o
found_first rows hint s None hinted h = any_none (is_of s) rows (λ i r e. elim (cases_Bool (is_of s r)) [
  | inr fails ↦ fails
  | inl some ↦ ap (is_of_at s) (sym e) ∙ h i (all_hinted rows hint s hinted i (ap (is_of_at s) e ∙ some))
])
found_first rows hint s (Some i) hinted h = by (slice_get rows i) refl h.0
  where
    before : is_raised (take i rows) s ≡ false
    before = any_none (is_of s) (take i rows) (λ j r e. elim (cases_Bool (is_of s r)) [
      | inr fails ↦ fails
      | inl some ↦ (let of = ap (is_of_at s) (of_front rows i j r e) ∙ some in let le = h.1 j (all_hinted rows hint s hinted j of) of in
          let lt = slice_get_within (take i rows) j r e in let most = length-take i rows in absurd (omega (arith, le, lt, most)))
    ])

    by : (o : Option Row) → slice_get rows i ≡ o → is_of_at s o ≡ true → IsFirstOf rows s (Some i)
    by None e k = cc
    by (Some r) e k = (r, e, k, before)

-- hints stay right where no place below the end is lost
pub hinted_more : (rows : List Row) (old new : Signature → List ℕ) (number : ℕ) → number ≡ length rows → ((q : Signature) (n : ℕ) → n < number → Contains (old q) n → Contains (new q) n) → AreHinted rows old → AreHinted rows new
hinted_more rows old new number end kept h i r e = let within = slice_get_within rows i r e in kept (signature_of r.claimed) i (omega (arith, within, end)) (h i r e)

pub hinted_added : (rows : List Row) (r : Row) (hint : Signature → List ℕ) → Contains (hint (signature_of r.claimed)) (length rows) → AreHinted rows hint → AreHinted (rows ++ r ∷ []) hint
hinted_added rows r hint last h i x e = elim (cases_eq i (length rows)) [
  | inr other ↦ h i x (sym (not_at_end rows r i other) ∙ e)
  | inl same ↦ (let both : Some r ≡ Some x = sym (ap (slice_get (rows ++ r ∷ [])) same ∙ at_end rows r) ∙ e in let is : r ≡ x = cc in
      subst (λ n. Contains (hint (signature_of x.claimed)) n) (sym same) (subst (λ (x : Row). Contains (hint (signature_of x.claimed)) (length rows)) is last))
]

pub hinted_front : (n : ℕ) (rows : List Row) (hint : Signature → List ℕ) → AreHinted rows hint → AreHinted (take n rows) hint
hinted_front n rows hint h i r e = h i r (of_front rows n i r e)

pub hinted_set : (s : Signature) (v : Option Bool) (rows : List Row) (hint : Signature → List ℕ) → AreHinted rows hint → AreHinted (with_verdicts s v rows) hint
hinted_set s v rows hint h i r e =
    let was = set_at s v rows i r e in
    subst (λ c. Contains (hint (signature_of c)) i) (sym (set_claimed s v was.0) ∙ ap (λ (r : Row). r.claimed) was.2) (h i was.0 was.1)

-- and entries
pub entered_more : (rows : List Row) (old new : BodyPart → Bool) → ((q : BodyPart) → old q ≡ true → new q ≡ true) → AreEntered rows old → AreEntered rows new
entered_more rows old new kept h i r q e b = kept q (h i r q e b)

pub entered_added : (rows : List Row) (r : Row) (entered : BodyPart → Bool) → ((q : BodyPart) → brings r.claimed.body r.claimed.parts q ≡ true → entered q ≡ true) → AreEntered rows entered → AreEntered (rows ++ r ∷ []) entered
entered_added rows r entered last h i x q e b = elim (cases_eq i (length rows)) [
  | inr other ↦ h i x q (sym (not_at_end rows r i other) ∙ e) b
  | inl same ↦ (let both : Some r ≡ Some x = sym (ap (slice_get (rows ++ r ∷ [])) same ∙ at_end rows r) ∙ e in let is : r ≡ x = cc in
      last q (ap (λ (x : Row). brings x.claimed.body x.claimed.parts q) is ∙ b))
]

pub entered_front : (n : ℕ) (rows : List Row) (entered : BodyPart → Bool) → AreEntered rows entered → AreEntered (take n rows) entered
entered_front n rows entered h i r q e b = h i r q (of_front rows n i r e) b

pub entered_set : (s : Signature) (v : Option Bool) (rows : List Row) (entered : BodyPart → Bool) → AreEntered rows entered → AreEntered (with_verdicts s v rows) entered
entered_set s v rows entered h i r q e b =
    let was = set_at s v rows i r e in
    h i was.0 q was.1 (ap (λ c. brings c.body c.parts q) (sym (set_claimed s v was.0) ∙ ap (λ (r : Row). r.claimed) was.2) ∙ b)
