-- Laws of rows: raising, hearing, taking back and cutting.
use Rattle.std.proofs.Common.{◌≡◌, ℕ, zero, suc, ◌<◌, ◌≤◌, Bool, true, false, ◌||◌, List, [], ◌∷◌, ◌++◌, length, take, Option, Some, None, refl, sym, ◌∙◌, ap, subst, inl, inr, arith}
use Rattle.std.specs.Prelude.{slice_get, bytes_eq, ◌==◌, ◌&&◌}
use Rattle.std.specs.Option.{option_map}
use Rattle.std.specs.Cmp.Lexicographic.{bytes_decides}
use Rattle.std.proofs.lemmas.Bool.{and_from, and_parts, cases_Bool, cases_eq, cases_lt}
use Rattle.std.proofs.lemmas.Bool.Decides.{Decides-eqb}
use Rattle.std.proofs.lemmas.List.{length-append, take-take}
use Rattle.std.proofs.lemmas.List.Folds.{list_any-append}
use Rattle.std.proofs.lemmas.Option.{slice_get-map, slice_get_within}
use Rattle.cesr_codes.specs.Spelling.{key_code}
use Rattle.cesr_codes.specs.declared.key.KeyCode.{KeyCode}
use Rattle.cesr_codes.specs.declared.key.KeyCode.TheVariants.{Fixed, Rotating}
use Rattle.claim_table.specs.declared.claim_table.claimed.Claimed.{Claimed}
use Rattle.claim_table.specs.declared.claim_table.row.Row.{Row}
use Rattle.claim_table.specs.declared.claim_table.signature.Signature.{Signature}
use Rattle.claim_table.specs.ClaimTable.Keeping.{IsFirstAt}
use Rattle.claim_table.specs.ClaimTable.Rows.{DoAgree, heard, is_of, is_raised, raised, raised_all, same_key, same_signature, signature_of, unheard, verdict_of, with_verdict, with_verdicts}
use Rattle.claim_table.proofs.ClaimTableLemmas.Lists.{any_front, any_some, map_back, take_before, take_map}
use Rattle.lists.proofs.ListsLemmas.Places.{at_end, in_front, not_at_end, of_front}

numbers : (m n : ℕ) → (m == n) ≡ true → m ≡ n
numbers m n h = (Decides-eqb m n).0 h

one_code : (c d : KeyCode) → key_code c ≡ key_code d → c ≡ d
one_code Fixed Fixed h = refl
one_code Fixed Rotating h = absurd (omega (arith, h))
one_code Rotating Fixed h = absurd (omega (arith, h))
one_code Rotating Rotating h = refl

-- the test decides equality
pub same_is : (s t : Signature) → same_signature s t ≡ true → s ≡ t
same_is s t h =
    let parts = and_parts (s.body == t.body) (same_key s.key t.key && bytes_eq s.sig.raw t.sig.raw) h in
    let rest = and_parts (same_key s.key t.key) (bytes_eq s.sig.raw t.sig.raw) parts.1 in
    let key = and_parts (key_code s.key.code == key_code t.key.code) (bytes_eq s.key.raw t.key.raw) rest.0 in
    let b = numbers s.body t.body parts.0 in
    let c = one_code s.key.code t.key.code (numbers _ _ key.0) in
    let k = (bytes_decides s.key.raw t.key.raw).0 key.1 in
    let r = (bytes_decides s.sig.raw t.sig.raw).0 rest.1 in
    λ i. record { body = b i; key = record { code = c i; raw = k i }; sig = record { raw = r i } }

pub same_itself : (s : Signature) → same_signature s s ≡ true
same_itself s =
    let key = and_from _ _ ((Decides-eqb (key_code s.key.code) (key_code s.key.code)).1 refl) ((bytes_decides s.key.raw s.key.raw).1 refl) in
    and_from _ _ ((Decides-eqb s.body s.body).1 refl) (and_from _ _ key ((bytes_decides s.sig.raw s.sig.raw).1 refl))

-- a row's verdict is set
module _ (s : Signature) (v : Option Bool) (r : Row) where
  pub set_there : is_of s r ≡ true → with_verdict s v r ≡ record { claimed = r.claimed; verdict = v }
  set_there h = rw h refl

  pub set_elsewhere : is_of s r ≡ false → with_verdict s v r ≡ r
  set_elsewhere h = rw h refl

  pub set_claimed : (with_verdict s v r).claimed ≡ r.claimed
  set_claimed = elim (cases_Bool (is_of s r)) [ inl k ↦ rw k refl | inr k ↦ rw k refl ]

  pub set_of : (t : Signature) → is_of t (with_verdict s v r) ≡ is_of t r
  set_of t = ap (λ c. same_signature (signature_of c) t) set_claimed

pub set_again : (s : Signature) (v w : Option Bool) (r : Row) → with_verdict s w (with_verdict s v r) ≡ with_verdict s w r
set_again s v w r = elim (cases_Bool (is_of s r)) [
  | inl k ↦ ap (with_verdict s w) (set_there s v r k) ∙ set_there s w (record { claimed = r.claimed; verdict = v }) k ∙ sym (set_there s w r k)
  | inr k ↦ ap (with_verdict s w) (set_elsewhere s v r k)
]

pub raised_set : (s t : Signature) (v : Option Bool) (rows : List Row) → is_raised (with_verdicts s v rows) t ≡ is_raised rows t
raised_set s t v [] = refl
raised_set s t v (r ∷ rows) = let here = set_of s v r t in let more = raised_set s t v rows in rw (here, more) refl

-- no row, no verdict
pub verdict_none : (rows : List Row) (s : Signature) → is_raised rows s ≡ false → verdict_of rows s ≡ None
verdict_none [] s h = refl
verdict_none (r ∷ rows) s h = elim (cases_Bool (is_of s r)) [
  | inl k ↦ (let e : true ≡ false = sym (ap (λ b. b || is_raised rows s) k) ∙ h in cc)
  | inr k ↦ (let more = verdict_none rows s (sym (ap (λ b. b || is_raised rows s) k) ∙ h) in rw k more)
]

-- more rows behind leave the verdict of a signature that is there
pub verdict_longer : (rows more : List Row) (s : Signature) → is_raised rows s ≡ true → verdict_of (rows ++ more) s ≡ verdict_of rows s
verdict_longer [] more s h = cc
verdict_longer (r ∷ rows) more s h = elim (cases_Bool (is_of s r)) [
  | inl k ↦ rw k refl
  | inr k ↦ (let rest = verdict_longer rows more s (sym (ap (λ b. b || is_raised rows s) k) ∙ h) in rw k rest)
]

verdict_last : (rows : List Row) (r : Row) (s : Signature) → is_raised rows s ≡ false → verdict_of (rows ++ r ∷ []) s ≡ verdict_of (r ∷ []) s
verdict_last [] r s h = refl
verdict_last (q ∷ rows) r s h = elim (cases_Bool (is_of s q)) [
  | inl k ↦ (let e : true ≡ false = sym (ap (λ b. b || is_raised rows s) k) ∙ h in cc)
  | inr k ↦ (let rest = verdict_last rows r s (sym (ap (λ b. b || is_raised rows s) k) ∙ h) in rw k rest)
]

-- a claim that is raised changes no verdict
pub verdict_raised : (rows : List Row) (c : Claimed) (s : Signature) → verdict_of (raised rows c) s ≡ verdict_of rows s
verdict_raised rows c s = elim (cases_Bool (is_raised rows s)) [
  | inl k ↦ verdict_longer rows _ s k
  | inr k ↦ verdict_last rows (record { claimed = c; verdict = verdict_of rows (signature_of c) }) s k ∙ elim (cases_Bool (same_signature (signature_of c) s)) [
    | inl h ↦ (let same = ap (verdict_of rows) (same_is (signature_of c) s h) in rw h same)
    | inr h ↦ (let none = sym (verdict_none rows s k) in rw h none)
  ]
]

pub raised_more : (rows : List Row) (c : Claimed) (s : Signature) → is_raised (raised rows c) s ≡ (is_raised rows s || same_signature (signature_of c) s)
raised_more rows c s = list_any-append (is_of s) rows _ ∙ ap (λ b. is_raised rows s || b) (or_none (same_signature (signature_of c) s))
  where
    or_none : (b : Bool) → (b || false) ≡ b
    or_none true = refl
    or_none false = refl

pub front_raised_all : (n : ℕ) (rows : List Row) (claims : List Claimed) → n ≤ length rows → take n (raised_all rows claims) ≡ take n rows
front_raised_all n rows [] h = refl
front_raised_all n rows (c ∷ claims) h =
    let longer = length-append rows (record { claimed = c; verdict = verdict_of rows (signature_of c) } ∷ []) in
    front_raised_all n (raised rows c) claims (omega (arith, longer, h)) ∙ take_before rows _ n h

-- the signature has the verdict that was heard, and any other has its own
pub verdict_heard : (s : Signature) (v : Option Bool) (rows : List Row) → is_raised rows s ≡ true → verdict_of (with_verdicts s v rows) s ≡ v
verdict_heard s v [] h = cc
verdict_heard s v (r ∷ rows) h = elim (cases_Bool (is_of s r)) [
  | inl k ↦ (let of = set_of s v r s ∙ k in let is = ap (λ r. r.verdict) (set_there s v r k) in rw of is)
  | inr k ↦ (let of = set_of s v r s ∙ k in let rest = verdict_heard s v rows (sym (ap (λ b. b || is_raised rows s) k) ∙ h) in rw of rest)
]

pub verdict_other : (s t : Signature) (v : Option Bool) (rows : List Row) → (s ≡ t → ⊥) → verdict_of (with_verdicts s v rows) t ≡ verdict_of rows t
verdict_other s t v [] apart = refl
verdict_other s t v (r ∷ rows) apart = elim (cases_Bool (is_of t r)) [
  | inl k ↦ (let of = set_of s v r t ∙ k in let stays = ap (λ r. r.verdict) (elsewhere k) in rw (of, k) stays)
  | inr k ↦ (let of = set_of s v r t ∙ k in let rest = verdict_other s t v rows apart in rw (of, k) rest)
]
  where
    elsewhere : is_of t r ≡ true → with_verdict s v r ≡ r
    elsewhere k = elim (cases_Bool (is_of s r)) [
      | inl h ↦ absurd (apart (sym (same_is (signature_of r.claimed) s h) ∙ same_is (signature_of r.claimed) t k))
      | inr h ↦ set_elsewhere s v r h
    ]

-- the first rows have the verdict of all
pub verdict_front : (n : ℕ) (rows : List Row) (s : Signature) → is_raised (take n rows) s ≡ true → verdict_of (take n rows) s ≡ verdict_of rows s
verdict_front zero rows s h = cc
verdict_front (suc n) [] s h = cc
verdict_front (suc n) (r ∷ rows) s h = elim (cases_Bool (is_of s r)) [
  | inl k ↦ rw k refl
  | inr k ↦ (let rest = verdict_front n rows s (sym (ap (λ b. b || is_raised (take n rows) s) k) ∙ h) in rw k rest)
]

-- the rows of a signature have one verdict, whatever is raised, cut or heard
pub agree_raised : (rows : List Row) (c : Claimed) → DoAgree rows → DoAgree (raised rows c)
agree_raised rows c h i r at = elim (cases_eq i (length rows)) [
  | inr other ↦ h i r (sym (not_at_end rows _ i other) ∙ at) ∙ sym (verdict_raised rows c (signature_of r.claimed))
  | inl same ↦ last (let both = sym (ap (slice_get (raised rows c)) same ∙ at_end rows (record { claimed = c; verdict = verdict_of rows (signature_of c) })) ∙ at in both)
]
  where
    last : Some (record { claimed = c; verdict = verdict_of rows (signature_of c) }) ≡ Some r → r.verdict ≡ verdict_of (raised rows c) (signature_of r.claimed)
    last e = let is : record { claimed = c; verdict = verdict_of rows (signature_of c) } ≡ r = cc in
        subst (λ (r : Row). r.verdict ≡ verdict_of (raised rows c) (signature_of r.claimed)) is (sym (verdict_raised rows c (signature_of c)))

pub agree_front : (n : ℕ) (rows : List Row) → DoAgree rows → DoAgree (take n rows)
agree_front n rows h i r at =
    let s = signature_of r.claimed in let there = any_some (is_of s) (take n rows) i r at (same_itself s) in
    h i r (of_front rows n i r at) ∙ sym (verdict_front n rows s there)

-- what stands at a place after hearing stood there, but for its verdict
pub set_at : (s : Signature) (v : Option Bool) (rows : List Row) (i : ℕ) (r : Row) → slice_get (with_verdicts s v rows) i ≡ Some r → (q : Row) × (slice_get rows i ≡ Some q) × (with_verdict s v q ≡ r)
set_at s v [] i r e = cc
set_at s v (q ∷ rows) zero r e = let is : with_verdict s v q ≡ r = cc in (q, refl, is)
set_at s v (q ∷ rows) (suc i) r e = set_at s v rows i r e

pub agree_set : (s : Signature) (v : Option Bool) (rows : List Row) → DoAgree rows → DoAgree (with_verdicts s v rows)
agree_set s v rows h i r at = let was = set_at s v rows i r at in subst (λ (r : Row). r.verdict ≡ verdict_of (with_verdicts s v rows) (signature_of r.claimed)) was.2 (by was.0 was.1)
  where
    by : (q : Row) → slice_get rows i ≡ Some q → (with_verdict s v q).verdict ≡ verdict_of (with_verdicts s v rows) (signature_of (with_verdict s v q).claimed)
    by q e = elim (cases_Bool (is_of s q)) [
      | inl k ↦ (let there = any_some (is_of s) rows i q e k in let heard_now = verdict_heard s v rows there in
          ap (λ r. r.verdict) (set_there s v q k) ∙ sym heard_now ∙ ap (verdict_of (with_verdicts s v rows)) (sym (ap signature_of (set_claimed s v q) ∙ same_is (signature_of q.claimed) s k)))
      | inr k ↦ (let apart = λ (e : s ≡ signature_of q.claimed). clash q e k in
          ap (λ r. r.verdict) (set_elsewhere s v q k) ∙ h i q e ∙ sym (verdict_other s (signature_of q.claimed) v rows apart) ∙ ap (λ c. verdict_of (with_verdicts s v rows) (signature_of c)) (sym (set_claimed s v q)))
    ]
      where
        clash : (q : Row) → s ≡ signature_of q.claimed → is_of s q ≡ false → ⊥
        clash q e k = let both : true ≡ false = sym (same_itself (signature_of q.claimed)) ∙ ap (same_signature (signature_of q.claimed)) (sym e) ∙ k in cc

-- taking back what was heard gives the rows, where the signature had no verdict
pub unheard_heard : (s : Signature) (v : Bool) (rows : List Row) → DoAgree rows → verdict_of rows s ≡ None → unheard s (heard s v rows) ≡ rows
unheard_heard s v rows agree none = map_back (with_verdict s (Some v)) (with_verdict s None) rows (λ i r at. elim (cases_Bool (is_of s r)) [
  | inl k ↦ (let had : r.verdict ≡ None = agree i r at ∙ ap (verdict_of rows) (same_is (signature_of r.claimed) s k) ∙ none in
      set_again s (Some v) None r ∙ set_there s None r k ∙ (λ j. record { claimed = r.claimed; verdict = sym had j }))
  | inr k ↦ set_again s (Some v) None r ∙ set_elsewhere s None r k
])

-- the first row of a signature stays the first
pub first_set : (s t : Signature) (v : Option Bool) (rows : List Row) (i : ℕ) → IsFirstAt rows t i → IsFirstAt (with_verdicts s v rows) t i
first_set s t v rows i h = (
  with_verdict s v h.0,
  slice_get-map (with_verdict s v) rows i ∙ ap (option_map (with_verdict s v)) h.1,
  set_of s v h.0 t ∙ h.2,
  ap (λ rows. is_raised rows t) (take_map (with_verdict s v) i rows) ∙ raised_set s t v (take i rows) ∙ h.3,
)

pub first_raised : (rows : List Row) (s : Signature) (i : ℕ) → IsFirstAt rows s i → is_raised rows s ≡ true
first_raised rows s i h = any_some (is_of s) rows i h.0 h.1 h.2

pub first_longer : (rows : List Row) (q : Row) (s : Signature) (i : ℕ) → IsFirstAt rows s i → IsFirstAt (rows ++ q ∷ []) s i
first_longer rows q s i h =
    let within = slice_get_within rows i h.0 h.1 in
    (h.0, not_at_end rows q i (λ e. absurd (omega (arith, e, within))) ∙ h.1, h.2, ap (λ rows. is_raised rows s) (take_before rows _ i (omega (arith, within))) ∙ h.3)

pub first_front : (rows : List Row) (s : Signature) (i n : ℕ) → i < n → IsFirstAt rows s i → IsFirstAt (take n rows) s i
first_front rows s i n lt h = (h.0, in_front rows n i lt ∙ h.1, h.2, ap (λ rows. is_raised rows s) (take-take i n rows (omega (arith, lt))) ∙ h.3)

-- where some of the first rows is of the signature, its first row is one of them
pub first_within : (rows : List Row) (s : Signature) (i n : ℕ) → IsFirstAt rows s i → is_raised (take n rows) s ≡ true → i < n
first_within rows s i n h some = elim (cases_lt i n) [
  | inl lt ↦ lt
  | inr le ↦ (let shorter = any_front (is_of s) n (take i rows) (ap (λ rows. is_raised rows s) (take-take n i rows le) ∙ some) in let e : true ≡ false = sym shorter ∙ h.3 in cc)
]
