-- The spots of open questions, while rows are raised, cut, heard and closed.
use Rattle.std.proofs.Common.{◌≡◌, ℕ, ◌<◌, Bool, true, false, cond, ◌&&◌, ◌||◌, List, [], ◌∷◌, ◌++◌, length, take, Option, Some, None, refl, sym, ◌∙◌, ap, inl, inr, arith, rules, tests}
use Rattle.std.specs.Prelude.{slice_get, not, ◌==◌, is_none, is_some}
use Rattle.std.specs.BTreeMap.{is_at}
use Rattle.std.specs.Cmp.{IsTotalOrder}
use Rattle.std.specs.Option.{option_map}
use Rattle.std.proofs.lemmas.Bool.{and_parts, cases_Bool, cases_eq, cases_lt}
use Rattle.std.proofs.Math.Seq.{take-length}
use Rattle.std.proofs.Math.Bool.{and-false, or-false}
use Rattle.std.proofs.lemmas.Bool.Decides.{Decides-eqb}
use Rattle.std.proofs.lemmas.Option.{slice_get-map, slice_get_past}
use Rattle.claim_table.specs.contracts.claim_table.spot.SpotOrd.TheImpl.Laws as spot_laws
use Rattle.claim_table.specs.contracts.claim_table.spot.SpotPartialEq.TheImpl as spot_eq
use Rattle.claim_table.specs.declared.claim_table.claim_rows.Pending.{Pending}
use Rattle.claim_table.specs.declared.claim_table.row.Row.{Row}
use Rattle.claim_table.specs.declared.claim_table.signature.Signature.{Signature}
use Rattle.claim_table.specs.declared.claim_table.spot.Spot.{Spot}
use Rattle.claim_table.specs.ClaimTable.Keeping.{AreOpen, IsFirstAt, IsPendingBelow, is_open_at, is_pending, opens, spot_at, spot_cmp}
use Rattle.claim_table.specs.ClaimTable.Rows.{DoAgree, heard, is_of, is_raised, signature_of, unheard, verdict_of, with_verdict, with_verdicts}
use Rattle.claim_table.proofs.ClaimTableLemmas.Lists.{any_some, differ, take_before, take_map}
use Rattle.lists.proofs.ListsLemmas.Places.{at_end, in_front, not_at_end}
use Rattle.claim_table.proofs.ClaimTableLemmas.Rows.{agree_set, first_raised, first_set, raised_set, same_is, set_elsewhere, set_there, unheard_heard, verdict_heard}

spot_eq_is : (x y : Spot) → (spot_eq.ghosts).eq x y ≡ ((x.body == y.body) && (x.row == y.row))
spot_eq_is x y = search (rules, tests)

spot_test : (x y : Spot) → is_at (spot_cmp x) y ≡ ((x.body == y.body) && (x.row == y.row))
spot_test x y = sym (spot_laws.matches_eq-law x y) ∙ spot_eq_is x y

same_spot : (x y : Spot) → (spot_eq.ghosts).eq x y ≡ true → x ≡ y
same_spot x y h = search (rules, tests)

spot_same : (x : Spot) → (spot_eq.ghosts).eq x x ≡ true
spot_same x = search (rules, tests)

pub spot_is : (x y : Spot) → is_at (spot_cmp x) y ≡ true → x ≡ y
spot_is x y h = same_spot x y (spot_laws.matches_eq-law x y ∙ h)

pub spot_itself : (x : Spot) → is_at (spot_cmp x) x ≡ true
spot_itself x = sym (spot_laws.matches_eq-law x x) ∙ spot_same x

pub spot_total : IsTotalOrder spot_cmp
spot_total = spot_laws.total-law

-- the rows of a signature with a verdict have one
pub had_verdict : (rows : List Row) (s : Signature) → DoAgree rows → is_some (verdict_of rows s) ≡ true → (i : ℕ) (r : Row) → slice_get rows i ≡ Some r → is_of s r ≡ true → is_none r.verdict ≡ false
had_verdict rows s agree some i r at of = by r.verdict (ap is_some (agree i r at ∙ ap (verdict_of rows) (same_is (signature_of r.claimed) s of)) ∙ some)
  where
    by : (v : Option Bool) → is_some v ≡ true → is_none v ≡ false
    by None h = cc
    by (Some b) h = refl

-- rows of one signature before a place
module _ (rows : List Row) (s : Signature) (p : ℕ) (first : IsFirstAt rows s p) where
  not_first : (i : ℕ) (r : Row) → slice_get rows i ≡ Some r → is_of s r ≡ true → not (is_raised (take i rows) s) ≡ (p == i)
  not_first i r at of = elim (cases_eq p i) [
    | inl same ↦ ap not (ap (λ k. is_raised (take k rows) s) (sym same) ∙ first.3) ∙ sym ((Decides-eqb p i).1 same)
    | inr other ↦ elim (cases_lt i p) [
      | inl below ↦ (let there = any_some (is_of s) (take p rows) i r (in_front rows p i below ∙ at) of in let e : true ≡ false = sym there ∙ first.3 in cc)
      | inr above ↦ (let lt : p < i = omega (arith, above, other) in
          ap not (any_some (is_of s) (take i rows) p first.0 (in_front rows i p lt ∙ first.1) first.2) ∙ sym (differ p i other))
    ]
  ]

  -- another signature's row is elsewhere
  elsewhere : (i : ℕ) (r : Row) → slice_get rows i ≡ Some r → is_of s r ≡ false → (p == i) ≡ false
  elsewhere i r at of = differ p i (λ e. let both : Some first.0 ≡ Some r = sym first.1 ∙ ap (slice_get rows) e ∙ at in let is : first.0 ≡ r = cc in let clash : true ≡ false = sym first.2 ∙ ap (is_of s) is ∙ of in cc)

  -- what taking the verdicts back opens is the first row
  reopened : ((i : ℕ) (r : Row) → slice_get rows i ≡ Some r → is_of s r ≡ true → is_none r.verdict ≡ false) → (n i : ℕ)
      → is_open_at (unheard s rows) n i ≡ (is_open_at rows n i || ((s.body == n) && (p == i)))
  reopened had n i = ap (opens n (take i (unheard s rows))) (slice_get-map (with_verdict s None) rows i) ∙ ap (λ before. opens n before (option_map (with_verdict s None) (slice_get rows i))) (take_map (with_verdict s None) i rows) ∙ by (slice_get rows i) refl
    where
      by : (o : Option Row) → slice_get rows i ≡ o → opens n (with_verdicts s None (take i rows)) (option_map (with_verdict s None) o) ≡ (opens n (take i rows) o || ((s.body == n) && (p == i)))
      by None e = sym (ap (λ b. (s.body == n) && b) (differ p i (λ same. let both : Some first.0 ≡ None = sym first.1 ∙ ap (slice_get rows) same ∙ e in cc)) ∙ and-false (s.body == n))
      by (Some r) e = elim (cases_Bool (is_of s r)) [
        | inl k ↦ (let is = same_is (signature_of r.claimed) s k in
            ap (λ r. opens n (with_verdicts s None (take i rows)) (Some r)) (set_there s None r k)
            ∙ ap (λ t. (t.body == n) && not (is_raised (with_verdicts s None (take i rows)) t)) is
            ∙ ap (λ b. (s.body == n) && not b) (raised_set s s None (take i rows))
            ∙ ap (λ b. (s.body == n) && b) (not_first i r e k)
            ∙ sym (ap (λ b. ((r.claimed.body == n) && (b && not (is_raised (take i rows) (signature_of r.claimed)))) || ((s.body == n) && (p == i))) (had i r e k) ∙ ap (λ b. b || ((s.body == n) && (p == i))) (and-false (r.claimed.body == n))))
        | inr k ↦ ap (λ r. opens n (with_verdicts s None (take i rows)) (Some r)) (set_elsewhere s None r k)
            ∙ ap (λ b. (r.claimed.body == n) && (is_none r.verdict && not b)) (raised_set s (signature_of r.claimed) None (take i rows))
            ∙ sym (ap (λ b. opens n (take i rows) (Some r) || ((s.body == n) && b)) (elsewhere i r e k) ∙ ap (λ b. opens n (take i rows) (Some r) || b) (and-false (s.body == n)) ∙ or-false _)
      ]

  -- a verdict is taken back
  pub open_unheard : (spots : Spot → Bool) → ((i : ℕ) (r : Row) → slice_get rows i ≡ Some r → is_of s r ≡ true → is_none r.verdict ≡ false)
      → AreOpen rows (Some (record { signature = s; row = p })) spots → AreOpen (unheard s rows) None spots
  open_unheard spots had h n i = h n i ∙ sym (reopened had n i) ∙ sym (or-false _)

-- a verdict is heard
pub open_heard : (rows : List Row) (s : Signature) (p : ℕ) (spots : Spot → Bool) (v : Bool) → IsFirstAt rows s p → DoAgree rows → verdict_of rows s ≡ None
    → AreOpen rows None spots → AreOpen (heard s v rows) (Some (record { signature = s; row = p })) spots
open_heard rows s p spots v first agree none h n i =
    let has = had_verdict (heard s v rows) s (agree_set s (Some v) rows agree) (ap is_some (verdict_heard s (Some v) rows (first_raised rows s p first))) in
    h n i ∙ or-false _ ∙ ap (λ rows. is_open_at rows n i) (sym (unheard_heard s v rows agree none)) ∙ reopened (heard s v rows) s p (first_set s s (Some v) rows p first) has n i

-- the other rows open what they opened
same_open : (rows : List Row) (r : Row) (n i : ℕ) → (i ≡ length rows → ⊥) → is_open_at (rows ++ r ∷ []) n i ≡ is_open_at rows n i
same_open rows r n i other = elim (cases_lt i (length rows)) [
  | inl below ↦ ap (opens n (take i (rows ++ r ∷ []))) (not_at_end rows r i other) ∙ ap (λ before. opens n before (slice_get rows i)) (take_before rows (r ∷ []) i (omega (arith, below)))
  | inr past ↦ (let none = slice_get_past rows i past in ap (opens n (take i (rows ++ r ∷ []))) (not_at_end rows r i other ∙ none) ∙ ap (opens n (take i rows)) (sym none))
]

-- a row is added at the end, with its spot where it is the first of its signature
pub open_added : (rows : List Row) (r : Row) (pending : Option Pending) (old new : Spot → Bool) (is_new : Bool)
    → is_new ≡ not (is_raised rows (signature_of r.claimed)) → (is_raised rows (signature_of r.claimed) ≡ false → r.verdict ≡ None)
    → ((q : Spot) → new q ≡ (old q || (is_new && is_at (spot_cmp (spot_at r.claimed.body (length rows))) q)))
    → AreOpen rows pending old → AreOpen (rows ++ r ∷ []) pending new
open_added rows r pending old new is_new first none updates h n i =
    let b = r.claimed.body == n in let p = is_pending pending n i in let raised = is_raised rows (signature_of r.claimed) in
    let is : new (spot_at n i) ≡ ((is_open_at rows n i || p) || (not raised && (b && (length rows == i)))) =
    updates (spot_at n i) ∙ ap (λ o. o || (is_new && is_at (spot_cmp (spot_at r.claimed.body (length rows))) (spot_at n i))) (h n i)
    ∙ ap (λ t. (is_open_at rows n i || p) || (is_new && t)) (spot_test (spot_at r.claimed.body (length rows)) (spot_at n i)) ∙ ap (λ f. (is_open_at rows n i || p) || (f && (b && (length rows == i)))) first in
    elim (cases_eq i (length rows)) [
      | inl same ↦ (let here : slice_get (rows ++ r ∷ []) i ≡ Some r = ap (slice_get (rows ++ r ∷ [])) same ∙ at_end rows r in
          let past : slice_get rows i ≡ None = slice_get_past rows i (omega (arith, same)) in
          let before : take i (rows ++ r ∷ []) ≡ rows = take_before rows (r ∷ []) i (omega (arith, same)) ∙ ap (λ k. take k rows) same ∙ take-length rows in
          is ∙ ap (λ o. (opens n (take i rows) o || p) || (not raised && (b && (length rows == i)))) past
          ∙ ap (λ t. (false || p) || (not raised && (b && t))) ((Decides-eqb (length rows) i).1 (sym same))
          ∙ by b (is_none r.verdict) raised p (λ k. ap is_none (none k))
          ∙ sym (ap (λ o. opens n (take i (rows ++ r ∷ [])) o || p) here ∙ ap (λ before. opens n before (Some r) || p) before))
      | inr other ↦ is ∙ ap (λ t. (is_open_at rows n i || p) || (not raised && (b && t))) (differ (length rows) i (λ e. other (sym e)))
          ∙ no_more (not raised) b (is_open_at rows n i || p) ∙ ap (λ o. o || p) (sym (same_open rows r n i other))
    ]
  where
    no_more : (x b o : Bool) → (o || (x && (b && false))) ≡ o
    no_more x b true = refl
    no_more true true false = refl
    no_more true false false = refl
    no_more false b false = refl

    by : (b x raised p : Bool) → (raised ≡ false → x ≡ true) → ((false || p) || (not raised && (b && true))) ≡ ((b && (x && not raised)) || p)
    by true true true true k = refl
    by true true true false k = refl
    by true true false true k = refl
    by true true false false k = refl
    by true false true true k = refl
    by true false true false k = refl
    by true false false p k = let e = k refl in cc
    by false x true true k = refl
    by false x true false k = refl
    by false x false true k = refl
    by false x false false k = refl

-- the last row is taken away, with its spot where it has one
pub open_popped : (rows : List Row) (r : Row) (pending : Option Pending) (old new : Spot → Bool)
    → ((q : Spot) → new q ≡ cond (is_at (spot_cmp (spot_at r.claimed.body (length rows))) q) false (old q)) → IsPendingBelow (length rows) pending
    → AreOpen (rows ++ r ∷ []) pending old → AreOpen rows pending new
open_popped rows r pending old new updates below h n i =
    let b = r.claimed.body == n in let o = is_open_at (rows ++ r ∷ []) n i in
    let is : new (spot_at n i) ≡ cond (b && (length rows == i)) false (o || is_pending pending n i) =
    updates (spot_at n i) ∙ ap (λ t. cond t false (old (spot_at n i))) (spot_test (spot_at r.claimed.body (length rows)) (spot_at n i)) ∙ ap (cond (b && (length rows == i)) false) (h n i) in
    elim (cases_eq i (length rows)) [
      | inl same ↦ (let here : slice_get (rows ++ r ∷ []) i ≡ Some r = ap (slice_get (rows ++ r ∷ [])) same ∙ at_end rows r in
          let past : slice_get rows i ≡ None = slice_get_past rows i (omega (arith, same)) in
          let none = not_pending pending below same in
          is ∙ ap (λ t. cond (b && t) false (o || is_pending pending n i)) ((Decides-eqb (length rows) i).1 (sym same))
          ∙ ap (λ q. cond (b && true) false (opens n (take i (rows ++ r ∷ [])) q || is_pending pending n i)) here
          ∙ ap (λ p. cond (b && true) false (opens n (take i (rows ++ r ∷ [])) (Some r) || p)) none
          ∙ gone b (is_none r.verdict && not (is_raised (take i (rows ++ r ∷ [])) (signature_of r.claimed)))
          ∙ sym (ap (λ q. opens n (take i rows) q || is_pending pending n i) past ∙ ap (λ p. false || p) none))
      | inr other ↦ is ∙ ap (λ t. cond (b && t) false (o || is_pending pending n i)) (differ (length rows) i (λ e. other (sym e)))
          ∙ ap (λ t. cond t false (o || is_pending pending n i)) (and-false b) ∙ ap (λ q. q || is_pending pending n i) (same_open rows r n i other)
    ]
  where
    not_pending : (pending : Option Pending) → IsPendingBelow (length rows) pending → i ≡ length rows → is_pending pending n i ≡ false
    not_pending None k same = refl
    not_pending (Some p) k same = ap (λ b. (p.signature.body == n) && b) (differ p.row i (λ e. absurd (omega (arith, e, k, same)))) ∙ and-false (p.signature.body == n)

    gone : (b z : Bool) → cond (b && true) false ((b && z) || false) ≡ false
    gone true z = refl
    gone false z = refl

-- the pending question is closed
pub open_closed : (rows : List Row) (s : Signature) (p : ℕ) (old new : Spot → Bool)
    → ((q : Spot) → new q ≡ cond (is_at (spot_cmp (spot_at s.body p)) q) false (old q)) → IsFirstAt rows s p
    → ((i : ℕ) (r : Row) → slice_get rows i ≡ Some r → is_of s r ≡ true → is_none r.verdict ≡ false)
    → AreOpen rows (Some (record { signature = s; row = p })) old → AreOpen rows None new
open_closed rows s p old new updates first had h n i =
    updates (spot_at n i) ∙ ap (λ t. cond t false (old (spot_at n i))) (spot_test (spot_at s.body p) (spot_at n i)) ∙ ap (cond ((s.body == n) && (p == i)) false) (h n i)
    ∙ by ((s.body == n) && (p == i)) (is_open_at rows n i) (λ k. shut (let parts = and_parts (s.body == n) (p == i) k in (Decides-eqb p i).0 parts.1))
  where
    shut : p ≡ i → is_open_at rows n i ≡ false
    shut same = ap (opens n (take i rows)) (ap (slice_get rows) (sym same) ∙ first.1)
        ∙ ap (λ b. (first.0.claimed.body == n) && (b && not (is_raised (take i rows) (signature_of first.0.claimed)))) (had p first.0 first.1 first.2) ∙ and-false (first.0.claimed.body == n)

    by : (t o : Bool) → (t ≡ true → o ≡ false) → cond t false (o || t) ≡ (o || false)
    by true o k = sym (or-false o ∙ k refl)
    by false o k = refl
