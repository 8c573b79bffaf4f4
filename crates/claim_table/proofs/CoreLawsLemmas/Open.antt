-- The rows of a table that are open are the open questions of the journal, in order.
use Rattle.std.proofs.Common.{◌≡◌, ℕ, suc, ◌+◌, Bool, true, false, not, ◌&&◌, ◌==◌, List, [], ◌∷◌, ◌++◌, length, map, Option, Some, None, refl, sym, ◌∙◌, ap, inl, inr, arith, append_assoc, if◌then◌else◌}
use Rattle.std.specs.List.{list_all, range_with_len}
use Rattle.journal.proofs.JournalLemmas.Keeping.{list_all-filter}
use Rattle.std.specs.Prelude.{is_none, filter, flat_map, slice_get, option_map, bytes_eq}
use Rattle.std.specs.Cmp.Lexicographic.{bytes_decides}
use Rattle.std.proofs.lemmas.Bool.{cases_Bool, and_from, and_parts}
use Rattle.key_state.specs.Same.{distinct, same_key, same_sig}
use Rattle.key_state.specs.States.{State}
use Rattle.key_state.proofs.Same.{numbers, number_itself, same_key_is, same_key_itself, same_sig_is, same_sig_itself}
use Rattle.journal.specs.declared.journal.body.Body.{Body}
use Rattle.journal.specs.Journal.Logs.{stands}
use Rattle.journal.specs.Journal.History.{Told, Triple, same_triple, claimed_sig, claims_on, has_verdict}
use Rattle.journal.specs.Journal.Questions.{state_before, raised_by}
use Rattle.journal.specs.declared.journal.question.Question.{Question}
use Rattle.journal.specs.Journal.Journals.{asked}
use Rattle.journal.proofs.JournalLemmas.Different.{all-filter}
use Rattle.journal.proofs.JournalLemmas.Same.{turned}
use Rattle.claim_table.proofs.CoreLawsLemmas.Told.{verdict_there}
use Rattle.claim_table.specs.declared.claim_table.claimed.Claimed.{Claimed}
use Rattle.claim_table.specs.declared.claim_table.row.Row.{Row}
use Rattle.claim_table.specs.declared.claim_table.signature.Signature.{Signature}
use Rattle.claim_table.specs.ClaimTable.Rows.{signature_of, same_signature, is_of, verdict_of, first_rows, is_open_on, open_rows}
use Rattle.claim_table.specs.CoreLaws.ClaimRows.{AreFound, found_on, claimed_at, triple_on, AreClaims}
use Rattle.journal.specs.EventRules.Parts.{Row as Found}
use Rattle.claim_table.proofs.CoreLawsLemmas.Claimed.{rows_are}
use Rattle.claim_table.proofs.CoreLawsLemmas.RaisedQuestions.{open_on}

-- a verdict is there in both or in neither
abbrev pub same_verdict : Option Bool → Option Bool → Bool
same_verdict v w = if is_none v then is_none w else not (is_none w)

verdict_itself : (v : Option Bool) → same_verdict v v ≡ true
verdict_itself None = refl
verdict_itself (Some y) = refl

-- SIGNATURES are the same as themselves, and those that are the same are one
pub same_signature_is : (s t : Signature) → same_signature s t ≡ true → s ≡ t
same_signature_is s t h =
    let body = and_parts (s.body == t.body) _ h in
    let rest = and_parts (same_key s.key t.key) (same_sig s.sig t.sig) body.1 in
    let b = numbers s.body t.body body.0 in let k = same_key_is s.key t.key rest.0 in let g = same_sig_is s.sig t.sig rest.1 in
    λ i. record { body = b i; key = k i; sig = g i }

pub same_signature_itself : (s : Signature) → same_signature s s ≡ true
same_signature_itself s = and_from _ _ (number_itself s.body) (and_from _ _ (same_key_itself s.key) (same_sig_itself s.sig))

pub signature_turned : (s t : Signature) → same_signature s t ≡ same_signature t s
signature_turned = turned same_signature same_signature_is same_signature_itself

pub filter-map : {X Y : Type 0} (p : Y → Bool) (f : X → Y) (xs : List X) → filter p (map f xs) ≡ map f (filter (λ x. p (f x)) xs)
filter-map p f [] = refl
filter-map p f (x ∷ xs) = elim (cases_Bool (p (f x))) [
  | inl k ↦ rw k (ap (λ ys. f x ∷ ys) (filter-map p f xs))
  | inr k ↦ rw k (filter-map p f xs)
]

pub filter-both : {X : Type 0} (p q : X → Bool) (xs : List X) → filter p (filter q xs) ≡ filter (λ x. q x && p x) xs
filter-both p q [] = refl
filter-both p q (x ∷ xs) = elim (cases_Bool (q x)) [
  | inl k ↦ elim (cases_Bool (p x)) [
    | inl l ↦ rw (k, l) (ap (λ ys. x ∷ ys) (filter-both p q xs))
    | inr l ↦ rw (k, l) (filter-both p q xs)
  ]
  | inr k ↦ rw k (filter-both p q xs)
]

pub filter-turned : {X : Type 0} (p q : X → Bool) (xs : List X) → filter p (filter q xs) ≡ filter q (filter p xs)
filter-turned p q [] = refl
filter-turned p q (x ∷ xs) = elim (cases_Bool (q x)) [
  | inl k ↦ elim (cases_Bool (p x)) [
    | inl l ↦ rw (k, l) (rw k (ap (λ ys. x ∷ ys) (filter-turned p q xs)))
    | inr l ↦ rw (k, l) (filter-turned p q xs)
  ]
  | inr k ↦ elim (cases_Bool (p x)) [
    | inl l ↦ rw (k, l) (rw k (filter-turned p q xs))
    | inr l ↦ rw (k, l) (filter-turned p q xs)
  ]
]

-- the row is of the body
abbrev pub on_body : ℕ → Row → Bool
on_body n r = r.claimed.body == n

-- first rows of a body are the body's first rows
on_of : (n : ℕ) (r q : Row) → is_of (signature_of r.claimed) q ≡ true → on_body n r ≡ on_body n q
on_of n r q h = let same = same_signature_is (signature_of q.claimed) (signature_of r.claimed) h in ap (λ s. s.body == n) (sym same)

apart_on : (n : ℕ) (r : Row) → on_body n r ≡ false → (q : Row) → (not (is_of (signature_of r.claimed) q) && on_body n q) ≡ on_body n q
apart_on n r k q = elim (cases_Bool (is_of (signature_of r.claimed) q)) [
  | inl l ↦ (let off = sym (on_of n r q l) ∙ k in rw (l, off) refl)
  | inr l ↦ rw l refl
]

filter-same : {X : Type 0} (p q : X → Bool) → ((x : X) → p x ≡ q x) → (xs : List X) → filter p xs ≡ filter q xs
filter-same p q same xs = λ i. filter (λ x. same x i) xs

first_on : (n : ℕ) (rows : List Row) → filter (on_body n) (first_rows rows) ≡ first_rows (filter (on_body n) rows)
first_on n [] = refl
first_on n (r ∷ rows) = elim (cases_Bool (on_body n r)) [
  | inl k ↦ rw k (ap (λ ys. r ∷ ys) (filter-turned (on_body n) (λ q. not (is_of (signature_of r.claimed) q)) (first_rows rows) ∙ ap (filter (λ q. not (is_of (signature_of r.claimed) q))) (first_on n rows)))
  | inr k ↦ rw k (filter-both (on_body n) (λ q. not (is_of (signature_of r.claimed) q)) (first_rows rows)
      ∙ filter-same (λ q. not (is_of (signature_of r.claimed) q) && on_body n q) (on_body n) (apart_on n r k) (first_rows rows) ∙ first_on n rows)
]

-- in rows of one body the first ones of their signatures are the first triples
abbrev pub row_triple : Body → Row → Triple
row_triple b r = triple_on b r.claimed.key r.claimed.sig

same_bytes : (b : Body) → bytes_eq b.bytes b.bytes ≡ true
same_bytes b = (bytes_decides b.bytes b.bytes).1 refl

pub triple_is : (n : ℕ) (b : Body) (r q : Row) → on_body n r ≡ true → on_body n q ≡ true
    → same_triple (row_triple b r) (row_triple b q) ≡ is_of (signature_of r.claimed) q
triple_is n b r q hr hq =
    let er = numbers r.claimed.body n hr in let eq = numbers q.claimed.body n hq in
    let one : (r.claimed.body == q.claimed.body) ≡ true = ap (λ m. m == q.claimed.body) (er ∙ sym eq) ∙ number_itself q.claimed.body in
    let bytes = same_bytes b in
    let left : same_triple (row_triple b r) (row_triple b q) ≡ (same_key r.claimed.key q.claimed.key && same_sig r.claimed.sig q.claimed.sig) = rw bytes refl in
    let right : same_signature (signature_of r.claimed) (signature_of q.claimed) ≡ (same_key r.claimed.key q.claimed.key && same_sig r.claimed.sig q.claimed.sig) = rw one refl in
    left ∙ sym right ∙ signature_turned (signature_of r.claimed) (signature_of q.claimed)

-- with a test that all pass, tests that are equal where it passes leave the same
pub filter-when : {X : Type 0} (g p q : X → Bool) → ((x : X) → g x ≡ true → p x ≡ q x) → (xs : List X) → list_all g xs ≡ true → filter p xs ≡ filter q xs
filter-when g p q same [] h = refl
filter-when g p q same (x ∷ xs) h =
    let parts = and_parts (g x) (list_all g xs) h in
    let here = same x parts.0 in
    let ih = filter-when g p q same xs parts.1 in
    elim (cases_Bool (q x)) [
      | inl k ↦ (let k' = here ∙ k in rw (k, k') (ap (λ ys. x ∷ ys) ih))
      | inr k ↦ (let k' = here ∙ k in rw (k, k') ih)
    ]

first_all : (g : Row → Bool) (rows : List Row) → list_all g rows ≡ true → list_all g (first_rows rows) ≡ true
first_all g [] h = refl
first_all g (r ∷ rows) h = let parts = and_parts (g r) (list_all g rows) h in
    and_from (g r) _ parts.0 (list_all-filter is_of' (λ q. not (is_of (signature_of r.claimed) q)) g (first_rows rows) (first_all g rows parts.1))
  where
    is_of' : Row → Row → Bool
    is_of' r q = is_of (signature_of r.claimed) q

first_triples : (n : ℕ) (b : Body) (rows : List Row) → list_all (on_body n) rows ≡ true
    → map (row_triple b) (first_rows rows) ≡ distinct same_triple (map (row_triple b) rows)
unfolding distinct
first_triples n b [] h = refl
first_triples n b (r ∷ rows) h =
    let parts = and_parts (on_body n r) (list_all (on_body n) rows) h in
    let here = parts.0 in
    let tests : filter (λ q. not (is_of (signature_of r.claimed) q)) (first_rows rows) ≡ filter (λ q. not (same_triple (row_triple b r) (row_triple b q))) (first_rows rows)
    = filter-when (on_body n) (λ q. not (is_of (signature_of r.claimed) q)) (λ q. not (same_triple (row_triple b r) (row_triple b q)))
    (λ q on. ap not (sym (triple_is n b r q here on))) (first_rows rows) (first_all (on_body n) rows parts.1) in
    ap (λ ys. row_triple b r ∷ ys)
    (ap (map (row_triple b)) tests
    ∙ sym (filter-map (λ t. not (same_triple (row_triple b r) t)) (row_triple b) (first_rows rows))
    ∙ ap (filter (λ t. not (same_triple (row_triple b r) t))) (first_triples n b rows parts.1))

-- the first row of a signature has the verdict of it
is_none_same : (rows : List Row) → list_all (λ r. same_verdict (verdict_of rows (signature_of r.claimed)) r.verdict) (first_rows rows) ≡ true
is_none_same [] = refl
is_none_same (r ∷ rows) = let itself = same_signature_itself (signature_of r.claimed) in
    let here : same_verdict (verdict_of (r ∷ rows) (signature_of r.claimed)) r.verdict ≡ true = rw itself (verdict_itself r.verdict) in
    and_from (same_verdict (verdict_of (r ∷ rows) (signature_of r.claimed)) r.verdict) _ here (behind (first_rows rows) (is_none_same rows))
  where
    behind : (qs : List Row) → list_all (λ q. same_verdict (verdict_of rows (signature_of q.claimed)) q.verdict) qs ≡ true
        → list_all (λ q. same_verdict (verdict_of (r ∷ rows) (signature_of q.claimed)) q.verdict) (filter (λ q. not (is_of (signature_of r.claimed) q)) qs) ≡ true
    behind [] h = refl
    behind (q ∷ qs) h = let parts = and_parts (same_verdict (verdict_of rows (signature_of q.claimed)) q.verdict) _ h in
        elim (cases_Bool (is_of (signature_of r.claimed) q)) [
          | inl k ↦ rw k (behind qs parts.1)
          | inr k ↦ (let off : is_of (signature_of q.claimed) r ≡ false = signature_turned (signature_of r.claimed) (signature_of q.claimed) ∙ k in
              let here : same_verdict (verdict_of (r ∷ rows) (signature_of q.claimed)) q.verdict ≡ true = rw off parts.0 in
              rw k (and_from (same_verdict (verdict_of (r ∷ rows) (signature_of q.claimed)) q.verdict) _ here (behind qs parts.1)))
        ]

all_same : (n : ℕ) (rows : List Row) → list_all (λ r. on_body n r && same_verdict (verdict_of rows (signature_of r.claimed)) r.verdict) (filter (on_body n) (first_rows rows)) ≡ true
all_same n rows = all_both (filter (on_body n) (first_rows rows)) (all-filter (on_body n) (first_rows rows))
    (list_all-filter (λ r q. true) (on_body n) (λ r. same_verdict (verdict_of rows (signature_of r.claimed)) r.verdict) (first_rows rows) (is_none_same rows))
  where
    all_both : (qs : List Row) → list_all (on_body n) qs ≡ true → list_all (λ r. same_verdict (verdict_of rows (signature_of r.claimed)) r.verdict) qs ≡ true
        → list_all (λ r. on_body n r && same_verdict (verdict_of rows (signature_of r.claimed)) r.verdict) qs ≡ true
    all_both [] h k = refl
    all_both (q ∷ qs) h k = let one = and_parts (on_body n q) _ h in let two = and_parts (same_verdict (verdict_of rows (signature_of q.claimed)) q.verdict) _ k in
        and_from _ _ (and_from _ _ one.0 two.0) (all_both qs one.1 two.1)

same_none : (v w : Option Bool) → same_verdict v w ≡ true → is_none w ≡ is_none v
same_none None None h = refl
same_none None (Some y) h = cc
same_none (Some y) None h = cc
same_none (Some y) (Some z) h = refl

-- the triples of claims whose keys are found
found_triples : (n : ℕ) (s : Option State) (b : Body) (fs : List Found) (cs : List Claimed) → AreFound n s b.event fs cs
    → map (λ c. triple_on b c.key c.sig) cs ≡ map (λ f. triple_on b f.key (claimed_sig f.claim)) fs
found_triples n s b [] [] are = refl
found_triples n s b [] (c ∷ cs) are = absurd are
found_triples n s b (f ∷ fs) [] are = absurd are
found_triples n s b (f ∷ fs) (c ∷ cs) are =
    let here = are.0 in let key = here.key in let sig = here.sig in let ih = found_triples n s b fs cs are.1 in
    λ i. triple_on b (key i) (sig i) ∷ ih i

pub triples_raised : (told : List Told) (log : List Body) (b : Body) → map (λ f. triple_on b f.key (claimed_sig f.claim)) (found_on told log b) ≡ raised_by told log b
unfolding found_on raised_by
triples_raised told log b = elim (cases_Bool (stands log b)) [
  | inl k ↦ rw k (sym (rows_are (λ key sig. true) (state_before log b) b (claims_on told b)).triples)
  | inr k ↦ rw k refl
]

map_both : {X Y Z : Type 0} (f : Y → Z) (g : X → Y) (xs : List X) → map f (map g xs) ≡ map (λ x. f (g x)) xs
map_both f g [] = refl
map_both f g (x ∷ xs) = ap (λ ys. f (g x) ∷ ys) (map_both f g xs)

-- the element behind the front
slice_get_middle : {X : Type 0} (front : List X) (b : X) (back : List X) → slice_get (front ++ b ∷ back) (length front) ≡ Some b
slice_get_middle [] b back = refl
slice_get_middle (x ∷ front) b back = slice_get_middle front b back

length_push : {X : Type 0} (front : List X) (b : X) → length (front ++ b ∷ []) ≡ suc (length front)
length_push [] b = refl
length_push (x ∷ front) b = ap (λ n. suc n) (length_push front b)

module _ (told : List Told) (log held : List Body) (rows : List Row) (are : AreClaims told log held rows) where
  module _ (n : ℕ) (b : Body) (at : slice_get held n ≡ Some b) where
    -- the triples of the rows of a body are those that it raises
    pub rows_raise : map (row_triple b) (filter (on_body n) rows) ≡ raised_by told log b
    unfolding claimed_at
    rows_raise = sym (map_both (λ c. triple_on b c.key c.sig) (λ r. r.claimed) (filter (on_body n) rows))
        ∙ ap (map (λ c. triple_on b c.key c.sig)) (sym (filter-map (λ c. c.body == n) (λ r. r.claimed) rows))
        ∙ found_triples n (state_before log b) b (found_on told log b) (claimed_at n rows) (are.claims n b at)
        ∙ triples_raised told log b

    unheard_is : (r : Row) → (on_body n r && same_verdict (verdict_of rows (signature_of r.claimed)) r.verdict) ≡ true → is_none r.verdict ≡ not (has_verdict told (row_triple b r))
    unheard_is r h =
        let parts = and_parts (on_body n r) _ h in
        let body = numbers r.claimed.body n parts.0 in
        same_none _ r.verdict parts.1
        ∙ ap (λ m. is_none (verdict_of rows (record { body = m; key = r.claimed.key; sig = r.claimed.sig }))) body
        ∙ ap is_none (are.verdicts n b r.claimed.key r.claimed.sig at)
        ∙ verdict_there told (row_triple b r)

    -- the open rows of a body are its open questions
    pub open_on_body : map (row_triple b) (filter (is_open_on n) (first_rows rows)) ≡ open_on told log b
    open_on_body =
        ap (map (row_triple b)) (sym (filter-both (λ r. is_none r.verdict) (on_body n) (first_rows rows))
        ∙ filter-when (λ r. on_body n r && same_verdict (verdict_of rows (signature_of r.claimed)) r.verdict) (λ r. is_none r.verdict) (λ r. not (has_verdict told (row_triple b r))) unheard_is (filter (on_body n) (first_rows rows)) (all_same n rows))
        ∙ sym (filter-map (λ t. not (has_verdict told t)) (row_triple b) (filter (on_body n) (first_rows rows)))
        ∙ ap (λ rs. filter (λ t. not (has_verdict told t)) (map (row_triple b) rs)) (first_on n rows)
        ∙ ap (filter (λ t. not (has_verdict told t))) (first_triples n b (filter (on_body n) rows) (all-filter (on_body n) rows) ∙ ap (distinct same_triple) rows_raise)

  -- the question of a row
  abbrev pub question_of : Row → Question
  question_of r = record { body = r.claimed.body; key = r.claimed.key; sig = r.claimed.sig }

  named_on : (n : ℕ) (b : Body) → slice_get held n ≡ Some b → (rs : List Row) → list_all (on_body n) rs ≡ true
      → map (λ r. asked held (question_of r)) rs ≡ map (λ r. Some (row_triple b r)) rs
  named_on n b at [] h = refl
  named_on n b at (r ∷ rs) h =
      let parts = and_parts (on_body n r) (list_all (on_body n) rs) h in
      let body = numbers r.claimed.body n parts.0 in
      let here : asked held (question_of r) ≡ Some (row_triple b r) = ap (λ o. option_map (λ b. row_triple b r) o) (ap (slice_get held) body ∙ at) in
      rw here (ap (λ ys. Some (row_triple b r) ∷ ys) (named_on n b at rs parts.1))

  map_append : {X Y : Type 0} (f : X → Y) (xs ys : List X) → map f (xs ++ ys) ≡ map f xs ++ map f ys
  map_append f [] ys = refl
  map_append f (x ∷ xs) ys = ap (λ zs. f x ∷ zs) (map_append f xs ys)

  open_from : (front back : List Body) → held ≡ front ++ back
      → map (λ r. asked held (question_of r)) (flat_map (λ n. filter (is_open_on n) (first_rows rows)) (range_with_len (length front) (length back))) ≡ map (λ t. Some t) (flat_map (open_on told log) back)
  open_from front [] e = refl
  open_from front (b ∷ back) e =
      let at : slice_get held (length front) ≡ Some b = ap (λ hs. slice_get hs (length front)) e ∙ slice_get_middle front b back in
      let rs = filter (is_open_on (length front)) (first_rows rows) in
      let ih = open_from (front ++ b ∷ []) back (e ∙ sym (append_assoc front (b ∷ []) back)) in
      let len : length (front ++ b ∷ []) ≡ length front + 1 = (let l = length_push front b in omega (arith, l)) in
      map_append (λ r. asked held (question_of r)) rs _
      ∙ ap (λ ys. ys ++ map (λ r. asked held (question_of r)) (flat_map (λ n. filter (is_open_on n) (first_rows rows)) (range_with_len (length front + 1) (length back)))) (named_on (length front) b at rs (open_all (length front)) ∙ sym (map_both (λ t. Some t) (row_triple b) rs) ∙ ap (map (λ t. Some t)) (open_on_body (length front) b at))
      ∙ ap (λ ys. map (λ t. Some t) (open_on told log b) ++ ys) (ap (λ m. map (λ r. asked held (question_of r)) (flat_map (λ n. filter (is_open_on n) (first_rows rows)) (range_with_len m (length back)))) (sym len) ∙ ih)
      ∙ sym (map_append (λ t. Some t) (open_on told log b) (flat_map (open_on told log) back))
    where
      open_all : (n : ℕ) → list_all (on_body n) (filter (is_open_on n) (first_rows rows)) ≡ true
      open_all n = all_weaker (filter (is_open_on n) (first_rows rows)) (all-filter (is_open_on n) (first_rows rows))
        where
          all_weaker : (qs : List Row) → list_all (is_open_on n) qs ≡ true → list_all (on_body n) qs ≡ true
          all_weaker [] h = refl
          all_weaker (q ∷ qs) h = let parts = and_parts (is_open_on n q) _ h in and_from _ _ (and_parts (on_body n q) _ parts.0).0 (all_weaker qs parts.1)

  -- OPEN: the open rows name the open questions of the bodies, one after the other
  pub open_rows_are : map (λ r. asked held (question_of r)) (open_rows (length held) rows) ≡ map (λ t. Some t) (flat_map (open_on told log) held)
  open_rows_are = open_from [] held refl
