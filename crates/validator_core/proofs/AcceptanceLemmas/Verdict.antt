-- The tables stand when a verdict is heard on a signature that has none.
use Rattle.std.proofs.Common.{◌≡◌, ℕ, ◌<◌, Bool, true, false, not, List, [], ◌∷◌, ◌++◌, length, Some, None, option_map, refl, sym, ◌∙◌, ap, subst}
use Rattle.std.specs.Prelude.{is_none, slice_get}
use Rattle.cesr_codes.specs.declared.key.Key.{Key}
use Rattle.cesr_codes.specs.declared.sig.Sig.{Sig}
use Rattle.journal.specs.declared.journal.body.Body.{Body}
use Rattle.journal.specs.declared.journal.entry.Entry.TheVariants.{Heard}
use Rattle.journal.specs.Journal.History.{Told, heard, has_verdict}
use Rattle.journal.specs.Journal.Questions.{state_before}
use Rattle.journal.proofs.JournalLemmas.Held.{told_push}
use Rattle.claim_table.specs.declared.claim_table.row.Row.{Row}
use Rattle.claim_table.specs.ClaimTable.Rows.{heard as rows_heard, is_raised, verdict_of}
use Rattle.claim_table.specs.CoreLaws.ClaimRows.{AreClaims, AreFound, HasClaims, found_on, triple_on, verdict_in}
use Rattle.claim_table.proofs.CoreLawsLemmas.Steps.{has_heard, has_same}
use Rattle.claim_table.proofs.CoreLawsLemmas.Told.{verdict_heard, verdict_there}
use Rattle.validator_core.specs.Tables.View.{View, log_of, with_rows}
use Rattle.validator_core.specs.Acceptance.Standing.{AreSoundTables, told_of}
use Rattle.validator_core.specs.Acceptance.Taken.{with_entry}
use Rattle.validator_core.proofs.AcceptanceLemmas.Taken.{held_entry}
use Rattle.validator_core.proofs.AcceptanceLemmas.FoundClaims.{found_unnamed}

module _ (v : View) (is : AreSoundTables v) (reader n : ℕ) (b : Body) (at : slice_get v.held n ≡ Some b) (low : n < length v.held) (key : Key) (sig : Sig) (verdict : Bool) where
  told_after : told_of (with_entry (Heard reader n key sig verdict) v) ≡ told_of v ++ heard reader b key sig verdict ∷ []
  told_after = told_push v.held v.entries (Heard reader n key sig verdict) (heard reader b key sig verdict) (ap (λ o. option_map (λ c. heard reader c key sig verdict) o) at)

  -- an open question has no verdict
  unheard_yet : verdict_of v.claims.rows (record { body = n; key = key; sig = sig }) ≡ None → has_verdict (told_of v) (triple_on b key sig) ≡ false
  unheard_yet none = not-false' (has_verdict (told_of v) (triple_on b key sig))
      (sym (verdict_there (told_of v) (triple_on b key sig)) ∙ ap is_none (sym (is.claims.verdicts n b key sig at) ∙ none))
    where
      not-false' : (y : Bool) → not y ≡ true → y ≡ false
      not-false' true h = cc
      not-false' false h = refl

  -- VERDICT: with its entry, and with the verdict on all rows of the signature, the tables stand
  pub standing_heard : is_raised v.claims.rows (record { body = n; key = key; sig = sig }) ≡ true → verdict_of v.claims.rows (record { body = n; key = key; sig = sig }) ≡ None
      → AreSoundTables (with_rows (rows_heard (record { body = n; key = key; sig = sig }) verdict v.claims.rows) (with_entry (Heard reader n key sig verdict) v))
  standing_heard raised none = record {
    spelled = is.spelled;
    differ = is.differ;
    entries_held = held_entry v (Heard reader n key sig verdict) low is.entries_held;
    accepted_held = is.accepted_held;
    grown = is.grown;
    log = is.log;
    claims = subst (λ t. AreClaims t (log_of v) v.held now_rows) (sym told_after) heard_now;
  }
    where
      now_told : List Told
      now_told = told_of v ++ heard reader b key sig verdict ∷ []

      now_rows : List Row
      now_rows = rows_heard (record { body = n; key = key; sig = sig }) verdict v.claims.rows

      was : HasClaims (state_before (log_of v)) (λ m c. found_on now_told (log_of v) c) (verdict_in (told_of v)) v.held v.claims.rows
      was = has_same (state_before (log_of v)) (state_before (log_of v)) (λ m c. found_on (told_of v) (log_of v) c) (λ m c. found_on now_told (log_of v) c) (verdict_in (told_of v)) (verdict_in (told_of v)) v.held v.claims.rows is.claims
          (λ m c there cs found. subst (λ l. AreFound m (state_before (log_of v) c) c.event l cs) (sym (found_unnamed (told_of v) (heard reader b key sig verdict) (log_of v) c refl)) found) (λ m c key sig there. refl)

      heard_now : AreClaims now_told (log_of v) v.held now_rows
      heard_now = has_heard (state_before (log_of v)) (λ m c. found_on now_told (log_of v) c) (verdict_in (told_of v)) (verdict_in now_told) v.held v.claims.rows n b key sig verdict was is.differ at raised
          (λ x. verdict_heard (told_of v) reader b key sig verdict x (unheard_yet none))
