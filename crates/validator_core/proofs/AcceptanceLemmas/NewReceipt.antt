-- The tables stand when the body of a receipt comes, before its entry does.
use Rattle.std.proofs.Common.{◌≡◌, true, false, List, [], ◌∷◌, ◌++◌, refl, sym, ◌∙◌, ap, arith, subst, inl, inr, if◌then◌else◌}
use Rattle.std.proofs.lemmas.Bool.{cases_Bool}
use Rattle.event_body.specs.EventBody.Events.{is_receipt}
use Rattle.key_state.specs.Exposure.{own_rules}
use Rattle.journal.specs.declared.journal.body.Body.{Body}
use Rattle.journal.specs.Journal.Grown.{IsGrown}
use Rattle.journal.specs.Journal.History.{claims_on}
use Rattle.journal.specs.Journal.Journals.{told_by}
use Rattle.journal.specs.Journal.Logs.{is_in, stands}
use Rattle.journal.specs.Journal.Questions.{state_before}
use Rattle.claim_table.specs.CoreLaws.Claimed.{rows_of}
use Rattle.validator_core.specs.Tables.AcceptedLog.Cuts.{IsLog}
use Rattle.claim_table.specs.CoreLaws.ClaimRows.{AreClaims, found_on, verdict_in}
use Rattle.claim_table.proofs.CoreLawsLemmas.Steps.{has_new}
use Rattle.validator_core.specs.Tables.View.{View, log_of}
use Rattle.validator_core.specs.Acceptance.Standing.{IsHeld, AreSoundTables, told_of}
use Rattle.validator_core.proofs.AcceptanceLemmas.NewBody.{chosen_more, differ_push, last_or, length_more, unsaid_outside}
use Rattle.validator_core.proofs.AcceptanceLemmas.Receipt.{receipt_stands}
use Rattle.validator_core.proofs.AcceptanceLemmas.Entries.{told_front}

-- of a receipt nothing is found
pub receipt_found : (v : View) (b : Body) → is_receipt b.event ≡ true → found_on (told_of v) (log_of v) b ≡ []
unfolding found_on
receipt_found v b receipt = ap (λ y. if y then rows_of (own_rules (state_before (log_of v) b) b.event) (claims_on (told_of v) b) else []) (receipt_stands (log_of v) b receipt)

-- UNFOUND: with one more body, of which nothing is found, the tables stand
pub standing_unfound : (v : View) (is : AreSoundTables v) (b : Body) → IsHeld b → is_in v.held b ≡ false → found_on (told_of v) (log_of v) b ≡ [] → AreSoundTables (record v { held = v.held ++ b ∷ [] })
standing_unfound v is b is_held outside none = record {
  spelled = λ m c at. last_or v.held b m c at (λ k d. IsHeld d) is_held (λ old. is.spelled m c old);
  differ = differ_push v.held b is.differ outside;
  entries_held = λ i e at. (let low = is.entries_held i e at in omega (arith, low, length_more v.held b));
  accepted_held = λ i n at. (let low = is.accepted_held i n at in omega (arith, low, length_more v.held b));
  grown = subst IsGrown (sym log_same) is.grown;
  log = subst (λ l. IsLog l v.log) (sym log_same) is.log;
  claims = subst (λ t. AreClaims t (log_of now) (v.held ++ b ∷ []) v.claims.rows) (sym told_same)
      (subst (λ l. AreClaims (told_of v) l (v.held ++ b ∷ []) v.claims.rows) (sym log_same) more);
}
  where
    now : View
    now = record v { held = v.held ++ b ∷ [] }

    told_same : told_of now ≡ told_of v
    told_same = told_front v.held (b ∷ []) v.entries is.entries_held

    log_same : log_of now ≡ log_of v
    log_same = chosen_more v.held (b ∷ []) v.log.numbers is.accepted_held

    more : AreClaims (told_of v) (log_of v) (v.held ++ b ∷ []) v.claims.rows
    more = has_new (state_before (log_of v)) (λ m c. found_on (told_of v) (log_of v) c) (verdict_in (told_of v)) v.held v.claims.rows b is.claims none (unsaid_outside v b outside)

-- RECEIPT: with its body more the tables stand
pub standing_body : (v : View) (is : AreSoundTables v) (b : Body) → IsHeld b → is_in v.held b ≡ false → is_receipt b.event ≡ true → AreSoundTables (record v { held = v.held ++ b ∷ [] })
standing_body v is b is_held outside receipt = standing_unfound v is b is_held outside (receipt_found v b receipt)

none_found : (log : List Body) (b : Body) → found_on [] log b ≡ []
unfolding found_on claims_on
none_found log b = elim (cases_Bool (stands log b)) [ inl k ↦ rw k refl | inr k ↦ rw k refl ]

told_nothing : (held : List Body) → told_by held [] ≡ []
unfolding told_by
told_nothing held = refl

-- UNTOLD: where nothing was told nothing is found
pub untold_found : (v : View) (b : Body) → v.entries ≡ [] → found_on (told_of v) (log_of v) b ≡ []
untold_found v b none = ap (λ t. found_on t (log_of v) b) (ap (told_by v.held) none ∙ told_nothing v.held) ∙ none_found (log_of v) b
