-- The tables stand when a receipt comes, and its claims are raised on the bodies that it speaks of.
use Rattle.std.proofs.Common.{◌≡◌, ℕ, ◌+◌, ◌<◌, Bool, true, false, ◌&&◌, ◌||◌, ◌==◌, List, [], ◌∷◌, ◌++◌, length, Some, None, append-nil, refl, sym, ◌∙◌, ap, inl, inr, subst, if◌then◌else◌}
use Rattle.std.specs.Prelude.{slice_get}
use Rattle.std.specs.List.{list_any}
use Rattle.std.proofs.lemmas.Bool.{cases_Bool}
use Rattle.std.proofs.Math.Bool.{and-false}
use Rattle.std.specs.Cmp.Lexicographic.{bytes_decides}
use Rattle.event_body.specs.declared.event_body.event.Event.{Event}
use Rattle.event_body.specs.declared.event_body.event.Event.TheVariants.{Icp, Rot, Ixn, Dip, Drt, Rct}
use Rattle.event_body.specs.EventBody.Events.{is_inception, is_receipt, prefix_of, prior_of, said_of, sn_of}
use Rattle.key_state.specs.KeyStates.{are_same}
use Rattle.key_state.specs.Exposure.{own_rules}
use Rattle.journal.specs.declared.journal.body.Body.{Body}
use Rattle.journal.specs.declared.journal.claim.Claim.{Claim}
use Rattle.journal.specs.declared.journal.entry.Entry.TheVariants.{Took}
use Rattle.journal.specs.Journal.History.{Told, took, claims_in, is_receipt_for}
use Rattle.journal.specs.Journal.Logs.{is_of, precedes, predecessor, same_body, stands}
use Rattle.journal.specs.Journal.Questions.{state_before}
use Rattle.journal.proofs.JournalLemmas.Places.{one_body}
use Rattle.journal.specs.EventRules.Parts.{Row as Found}
use Rattle.claim_table.specs.CoreLaws.Claimed.{rows_of}
use Rattle.claim_table.specs.declared.claim_table.row.Row.{Row}
use Rattle.claim_table.specs.CoreLaws.ClaimRows.{AreClaims, HasClaims, found_on, triple_on, verdict_in}
use Rattle.claim_table.proofs.CoreLawsLemmas.Steps.{found_push, has_same}
use Rattle.claim_table.proofs.CoreLawsLemmas.Told.{verdict_took}
use Rattle.validator_core.specs.Tables.View.{View, log_of, with_rows}
use Rattle.validator_core.specs.Acceptance.Standing.{AreSoundTables, told_of}
use Rattle.validator_core.specs.Acceptance.Turned.{turned}
use Rattle.validator_core.proofs.AcceptanceLemmas.Behind.{stands_not}
use Rattle.validator_core.specs.Acceptance.Taken.{found_by, with_entry}
use Rattle.validator_core.proofs.AcceptanceLemmas.Taken.{held_entry, told_took}
use Rattle.validator_core.proofs.AcceptanceLemmas.Turned.{turned_begins, turned_ends}
use Rattle.validator_core.proofs.AcceptanceLemmas.FoundClaims.{found_unnamed}

-- a receipt names no event before it, and is no inception
receipt_kind : (e : Event) → is_receipt e ≡ true → (prior_of e ≡ None) × (is_inception e ≡ false)
receipt_kind (Rct e) receipt = (refl, refl)
receipt_kind (Icp e) receipt = cc
receipt_kind (Rot e) receipt = cc
receipt_kind (Ixn e) receipt = cc
receipt_kind (Dip e) receipt = cc
receipt_kind (Drt e) receipt = cc

-- so no event precedes it
receipt_precedes : (b c : Body) → is_receipt b.event ≡ true → precedes b c ≡ false
receipt_precedes b c receipt = ap (λ p. (is_of (prefix_of b.event) c && (sn_of c.event + 1 == sn_of b.event)) && are_same p (Some (said_of c.event))) (receipt_kind b.event receipt).0
    ∙ and-false (is_of (prefix_of b.event) c && (sn_of c.event + 1 == sn_of b.event))

receipt_has_none : (log : List Body) (b : Body) → is_receipt b.event ≡ true → predecessor log b ≡ None
unfolding predecessor
receipt_has_none [] b receipt = refl
receipt_has_none (c ∷ log) b receipt = let none = receipt_precedes b c receipt in rw none (receipt_has_none log b receipt)

-- and it stands in no log
pub receipt_stands : (log : List Body) (b : Body) → is_receipt b.event ≡ true → stands log b ≡ false
receipt_stands log b receipt = stands_not log b (receipt_kind b.event receipt).1 (receipt_has_none log b receipt)

module _ (v : View) (is : AreSoundTables v) (reader n : ℕ) (b : Body) (at : slice_get v.held n ≡ Some b) (low : n < length v.held) (receipt : is_receipt b.event ≡ true) (claims : List Claim) where
  abbrev pub told_receipt : List Told
  told_receipt = told_of v ++ took reader b claims ∷ []

  -- what is found of the bodies before the receipt came, and then
  abbrev pub found_before : ℕ → Body → List Found
  found_before m c = found_on (told_of v) (log_of v) c

  abbrev pub found_then : ℕ → Body → List Found
  found_then m c = found_on told_receipt (log_of v) c

  -- the rows while the bodies that the receipt speaks of go over
  abbrev pub AreReceipted : List ℕ → List Row → Type 0
  AreReceipted done rows = HasClaims (state_before (log_of v)) (turned found_before found_then done) (verdict_in told_receipt) v.held rows

  -- BEGIN: with the entry alone none has gone over
  pub receipt_begins : AreReceipted [] v.claims.rows
  receipt_begins = turned_begins found_before found_then (state_before (log_of v)) (verdict_in told_receipt) v.held v.claims.rows
      (has_same (state_before (log_of v)) (state_before (log_of v)) found_before found_before (verdict_in (told_of v)) (verdict_in told_receipt) v.held v.claims.rows is.claims
      (λ m c there cs found. found) (λ m c key sig there. sym (verdict_took (told_of v) reader b claims (triple_on c key sig))))

  -- MORE: on a body that the receipt speaks of its claims are found, where the body stands
  pub receipt_more : (m : ℕ) (c : Body) → is_receipt_for b c ≡ true → found_then m c ≡ found_before m c ++ found_by (log_of v) c claims
  receipt_more m c right = found_push (told_of v) (took reader b claims) (log_of v) c
      ∙ ap (λ l. found_on (told_of v) (log_of v) c ++ found_by (log_of v) c l) (ap (λ y. if same_body b c || y then claims else []) right ∙ either (same_body b c))
    where
      either : (y : Bool) → (if y || true then claims else []) ≡ claims
      either true = refl
      either false = refl

  -- STAYS: of any other the same is found
  pub receipt_stays : (m : ℕ) (c : Body) → slice_get v.held m ≡ Some c → is_receipt_for b c ≡ false → found_then m c ≡ found_before m c
  receipt_stays m c there other = elim (cases_Bool (same_body b c)) [
    | inr k ↦ found_unnamed (told_of v) (took reader b claims) (log_of v) c (ap (λ y. if y || is_receipt_for b c then claims else []) k ∙ ap (λ y. if y then claims else []) other)
    | inl k ↦ found_push (told_of v) (took reader b claims) (log_of v) c ∙ ap (λ y. found_on (told_of v) (log_of v) c ++ (if y then rows_of (own_rules (state_before (log_of v) c) c.event) (claims_in c (took reader b claims)) else [])) (down k)
        ∙ append-nil (found_on (told_of v) (log_of v) c)
  ]
    where
      -- the receipt itself stands nowhere
      down : same_body b c ≡ true → stands (log_of v) c ≡ false
      down k = (let one = one_body v.held is.differ n m b c at there ((bytes_decides b.bytes c.bytes).0 k) in
          subst (λ d. stands (log_of v) d ≡ false) one (receipt_stands (log_of v) b receipt))

  -- END: when all that the receipt speaks of have, the tables stand
  pub standing_receipt : (done : List ℕ) (rows : List Row) → AreReceipted done rows
      → ((m : ℕ) (c : Body) → slice_get v.held m ≡ Some c → is_receipt_for b c ≡ true → list_any (λ k. k == m) done ≡ true)
      → AreSoundTables (with_rows rows (with_entry (Took reader n claims) v))
  standing_receipt done rows receipted all = record {
    spelled = is.spelled;
    differ = is.differ;
    entries_held = held_entry v (Took reader n claims) low is.entries_held;
    accepted_held = is.accepted_held;
    grown = is.grown;
    log = is.log;
    claims = subst (λ t. AreClaims t (log_of v) v.held rows) (sym (told_took v reader n b claims at)) ended;
  }
    where
      ended : AreClaims told_receipt (log_of v) v.held rows
      ended = turned_ends found_before found_then (state_before (log_of v)) (verdict_in told_receipt) v.held rows done receipted others
        where
          others : (m : ℕ) (c : Body) → slice_get v.held m ≡ Some c → list_any (λ k. k == m) done ≡ false → found_before m c ≡ found_then m c
          others m c there outside = sym (receipt_stays m c there (elim (cases_Bool (is_receipt_for b c)) [
            | inr k ↦ k
            | inl k ↦ (let inside = all m c there k in let no : true ≡ false = sym inside ∙ outside in cc)
          ]))
