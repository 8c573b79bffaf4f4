-- The parts of a body in a table are those that its claims and verdicts add up to.
use Rattle.std.proofs.Common.{◌≡◌, ℕ, suc, Bool, true, false, ◌&&◌, ◌||◌, ◌==◌, List, [], ◌∷◌, map, Option, Some, None, refl, sym, ◌∙◌, ap, inl, inr}
use Rattle.std.specs.Prelude.{filter, flat_map, slice_get, bytes_eq}
use Rattle.std.specs.List.{list_any}
use Rattle.std.specs.Cmp.Lexicographic.{bytes_decides}
use Rattle.std.proofs.lemmas.Bool.{cases_Bool, and_from, and_parts}
use Rattle.std.proofs.Math.Bool.{and-false}
use Rattle.cesr_codes.specs.declared.key.Key.{Key}
use Rattle.cesr_codes.specs.declared.sig.Sig.{Sig}
use Rattle.key_state.specs.Exposure.{own_rules}
use Rattle.key_state.specs.Same.{same_key, are_witnesses}
use Rattle.key_state.proofs.Same.{numbers}
use Rattle.journal.specs.declared.journal.body.Body.{Body}
use Rattle.journal.specs.Journal.Logs.{stands}
use Rattle.journal.specs.Journal.History.{Told, Triple, same_triple, claimed_sig, claims_on, said_yes, has_verdict, yes_in}
use Rattle.journal.specs.Journal.Questions.{state_before, raised_by}
use Rattle.journal.specs.Journal.Readiness.{backs}
use Rattle.journal.proofs.JournalLemmas.Places.{found_at, any_at}
use Rattle.journal.proofs.JournalLemmas.Same.{same_triple_is, same_triple_itself}
use Rattle.journal.specs.EventRules.Claims.{is_so}
use Rattle.journal.specs.EventRules.Parts.{index, reveal, Row as Found, brings_all, says_of, supports}
use Rattle.claim_table.specs.CoreLaws.Claimed.{rows_of}
use Rattle.claim_table.proofs.CoreLawsLemmas.Claimed.{rows_are}
use Rattle.claim_table.specs.declared.claim_table.claimed.Claimed.{Claimed}
use Rattle.claim_table.specs.declared.claim_table.part.Part.{Part as TablePart}
use Rattle.claim_table.specs.declared.claim_table.part.Part.TheVariants.{Indexed, Revealed, Backed}
use Rattle.claim_table.specs.declared.claim_table.row.Row.{Row}
use Rattle.claim_table.specs.declared.claim_table.signature.Signature.{Signature}
use Rattle.claim_table.specs.ClaimTable.Parts.{brings_part, has_part, supports as row_supports}
use Rattle.claim_table.specs.ClaimTable.Rows.{is_of, is_raised, is_yes, verdict_of}
use Rattle.claim_table.specs.CoreLaws.ClaimRows.{part_of, AreFound, found_on, claimed_at, triple_on, verdict_in, AreClaims}
use Rattle.claim_table.proofs.CoreLawsLemmas.Noted.{any-map, any-when, raised_is}
use Rattle.claim_table.proofs.CoreLawsLemmas.Open.{on_body, filter-map, triples_raised}

-- tests that are equal for each member are passed by one or by none
any-members : {X : Type 0} (p q : X → Bool) (xs : List X) → ((i : ℕ) (x : X) → slice_get xs i ≡ Some x → p x ≡ q x) → list_any p xs ≡ list_any q xs
any-members p q [] same = refl
any-members p q (x ∷ xs) same =
    let here = same 0 x refl in let ih = any-members p q xs (λ i y at. same (suc i) y at) in
    λ i. here i || ih i

-- a yes was heard where it is the verdict
pub yes_there : (told : List Told) (t : Triple) → is_yes (verdict_in told t) ≡ said_yes told t
unfolding verdict_in
yes_there told t = elim (cases_Bool (said_yes told t)) [
  | inl k ↦ rw k refl
  | inr k ↦ elim (cases_Bool (has_verdict told t)) [ inl l ↦ rw (k, l) refl | inr l ↦ rw (k, l) refl ]
]

-- what has a verdict is raised
pub verdict_raised : (rows : List Row) (s : Signature) → is_raised rows s ≡ false → verdict_of rows s ≡ None
verdict_raised [] s h = refl
verdict_raised (r ∷ rows) s h = elim (cases_Bool (is_of s r)) [
  | inl k ↦ (let yes_too : (is_of s r || is_raised rows s) ≡ true = ap (λ y. y || is_raised rows s) k in cc)
  | inr k ↦ (let none : is_raised rows s ≡ false = rw k at h in rw k (verdict_raised rows s none))
]

-- two tests are equal where each follows from the other
pub both_ways : (p q : Bool) → (p ≡ true → q ≡ true) → (q ≡ true → p ≡ true) → p ≡ q
both_ways true q to from = sym (to refl)
both_ways false true to from = from refl
both_ways false false to from = refl

module _ (told : List Told) (log held : List Body) (rows : List Row) (are : AreClaims told log held rows) (n : ℕ) (b : Body) (at : slice_get held n ≡ Some b) where
  abbrev said : Claimed → Bool
  said c = said_yes told (triple_on b c.key c.sig)

  abbrev said_of : Found → Bool
  said_of f = said_yes told (triple_on b f.key (claimed_sig f.claim))

  row_same : (p : TablePart) (i : ℕ) (r : Row) → slice_get rows i ≡ Some r
      → row_supports (record { body = n; part = p }) r ≡ (on_body n r && (said r.claimed && brings_part r.claimed.parts p))
  row_same p i r there = elim (cases_Bool (on_body n r)) [
    | inl k ↦ (let body = numbers r.claimed.body n k in
        let heard : is_yes r.verdict ≡ said r.claimed =
        ap is_yes (are.agree i r there ∙ ap (λ m. verdict_of rows (record { body = m; key = r.claimed.key; sig = r.claimed.sig })) body ∙ are.verdicts n b r.claimed.key r.claimed.sig at)
        ∙ yes_there told (triple_on b r.claimed.key r.claimed.sig) in
        ap (λ y. is_yes r.verdict && (y && brings_part r.claimed.parts p)) k
        ∙ ap (λ y. y && brings_part r.claimed.parts p) heard
        ∙ sym (ap (λ y. y && (said r.claimed && brings_part r.claimed.parts p)) k))
    | inr k ↦ ap (λ y. is_yes r.verdict && (y && brings_part r.claimed.parts p)) k ∙ and-false (is_yes r.verdict)
        ∙ sym (ap (λ y. y && (said r.claimed && brings_part r.claimed.parts p)) k)
  ]

  -- a part is there where a claim of the body with a yes brings it
  part_claimed : (p : TablePart) → has_part rows n p ≡ list_any (λ c. said c && brings_part c.parts p) (claimed_at n rows)
  unfolding claimed_at
  part_claimed p =
      any-members (row_supports (record { body = n; part = p })) (λ r. on_body n r && (said r.claimed && brings_part r.claimed.parts p)) rows (row_same p)
      ∙ sym (any-when (λ r. said r.claimed && brings_part r.claimed.parts p) (on_body n) rows)
      ∙ sym (any-map (λ c. said c && brings_part c.parts p) (λ r. r.claimed) (filter (on_body n) rows))
      ∙ ap (list_any (λ c. said c && brings_part c.parts p)) (sym (filter-map (λ c. c.body == n) (λ r. r.claimed) rows))

  module _ (up : stands log b ≡ true) (once : are_witnesses (own_rules (state_before log b) b.event).witnesses ≡ true) where
    part_found : (p : TablePart) (fs : List Found) (cs : List Claimed) → AreFound n (state_before log b) b.event fs cs
        → list_any (λ c. said c && brings_part c.parts p) cs ≡ list_any (λ f. said_of f && brings_all (state_before log b) b.event f (part_of p)) fs
    part_found p [] [] found = refl
    part_found p [] (c ∷ cs) found = absurd found
    part_found p (f ∷ fs) [] found = absurd found
    part_found p (f ∷ fs) (c ∷ cs) found =
        let here = found.0 in let key = here.key in let sig = here.sig in let parts = here.parts once p in
        let ih = part_found p fs cs found.1 in
        λ i. (said_yes told (triple_on b (key i) (sig i)) && parts i) || ih i

    abbrev all_found : List Found
    all_found = rows_of (own_rules (state_before log b) b.event) (claims_on told b)

    found_is : found_on told log b ≡ all_found
    unfolding found_on
    found_is = rw up refl

    part_is : (p : TablePart) → has_part rows n p ≡ list_any (λ f. said_of f && brings_all (state_before log b) b.event f (part_of p)) all_found
    part_is p = part_claimed p ∙ part_found p (found_on told log b) (claimed_at n rows) (are.claims n b at)
        ∙ ap (list_any (λ f. said_of f && brings_all (state_before log b) b.event f (part_of p))) found_is

    -- what has a yes is raised
    was_raised : (key : Key) (sig : Sig) → said_yes told (triple_on b key sig) ≡ true → list_any (same_triple (triple_on b key sig)) (raised_by told log b) ≡ true
    was_raised key sig yes_said = raised_is told log held rows are n b at key sig ∙ elim (cases_Bool (is_raised rows (record { body = n; key = key; sig = sig }))) [
      | inl k ↦ k
      | inr k ↦ (let none = verdict_raised rows (record { body = n; key = key; sig = sig }) k in
          let no : false ≡ said_yes told (triple_on b key sig) = ap is_yes (sym none ∙ are.verdicts n b key sig at) ∙ yes_there told (triple_on b key sig) in cc)
    ]

    -- a witness backs the body where a claim by its key has a yes
    backs_found : (w : Key) → list_any (λ f. said_of f && same_key f.key w) all_found ≡ backs told b w
    unfolding backs said_yes
    backs_found w = both_ways _ _ to from
      where
        to : list_any (λ f. said_of f && same_key f.key w) all_found ≡ true → backs told b w ≡ true
        to h =
            let f = found_at (λ f. said_of f && same_key f.key w) all_found h in
            let parts = and_parts (said_of f.1) (same_key f.1.key w) f.3 in
            let u = found_at (same_triple (triple_on b f.1.key (claimed_sig f.1.claim))) (flat_map yes_in told) parts.0 in
            let same = same_triple_is (triple_on b f.1.key (claimed_sig f.1.claim)) u.1 u.3 in
            let test : (bytes_eq b.bytes b.bytes && same_key f.1.key w) ≡ true = and_from _ _ ((bytes_decides b.bytes b.bytes).1 refl) parts.1 in
            any_at (λ t. bytes_eq t.body b.bytes && same_key t.key w) (flat_map yes_in told) u.0 u.1 u.2 (ap (λ t. bytes_eq t.body b.bytes && same_key t.key w) (sym same) ∙ test)

        from : backs told b w ≡ true → list_any (λ f. said_of f && same_key f.key w) all_found ≡ true
        from h =
            let u = found_at (λ t. bytes_eq t.body b.bytes && same_key t.key w) (flat_map yes_in told) h in
            let parts = and_parts (bytes_eq u.1.body b.bytes) (same_key u.1.key w) u.3 in
            let body = (bytes_decides u.1.body b.bytes).0 parts.0 in
            let is : triple_on b u.1.key u.1.sig ≡ u.1 = λ i. record { body = sym body i; key = u.1.key; sig = u.1.sig } in
            let yes_said : said_yes told (triple_on b u.1.key u.1.sig) ≡ true = any_at (same_triple (triple_on b u.1.key u.1.sig)) (flat_map yes_in told) u.0 u.1 u.2
            (ap (λ t. same_triple t u.1) is ∙ same_triple_itself u.1) in
            let raised = was_raised u.1.key u.1.sig yes_said in
            let f = found_at (λ f. same_triple (triple_on b u.1.key u.1.sig) (triple_on b f.key (claimed_sig f.claim))) all_found
            (sym (any-map (same_triple (triple_on b u.1.key u.1.sig)) (λ f. triple_on b f.key (claimed_sig f.claim)) all_found)
            ∙ ap (λ fs. list_any (same_triple (triple_on b u.1.key u.1.sig)) (map (λ f. triple_on b f.key (claimed_sig f.claim)) fs)) (sym found_is)
            ∙ ap (list_any (same_triple (triple_on b u.1.key u.1.sig))) (triples_raised told log b) ∙ raised) in
            let same = same_triple_is (triple_on b u.1.key u.1.sig) (triple_on b f.1.key (claimed_sig f.1.claim)) f.3 in
            any_at (λ f. said_of f && same_key f.key w) all_found f.0 f.1 f.2
            (and_from _ _ (ap (said_yes told) (sym same) ∙ yes_said) (ap (λ t. same_key t.key w) (sym same) ∙ parts.1))

    -- SUPPORTED: the table's parts of a body that stands are those of its support
    pub supported : (p : TablePart) → has_part rows n p ≡ supports told (state_before log b) b (part_of p)
    unfolding supports
    supported (Indexed i) = part_is (Indexed i) ∙ sym ((rows_are (says_of told b) (state_before log b) b (claims_on told b)).parts (index i))
    supported (Revealed i) = part_is (Revealed i) ∙ sym ((rows_are (says_of told b) (state_before log b) b (claims_on told b)).parts (reveal i))
    supported (Backed i) = part_is (Backed i) ∙ of (slice_get (own_rules (state_before log b) b.event).witnesses i)
      where
        of : (o : Option Key) → list_any (λ f. said_of f && is_so (same_key f.key) o) all_found ≡ is_so (backs told b) o
        of (Some w) = backs_found w
        of None = none all_found
          where
            none : (fs : List Found) → list_any (λ f. said_of f && false) fs ≡ false
            none [] = refl
            none (f ∷ fs) = ap (λ y. y || list_any (λ f. said_of f && false) fs) (and-false (said_of f)) ∙ none fs
