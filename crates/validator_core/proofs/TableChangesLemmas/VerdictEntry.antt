-- A verdict comes, or is taken back.
use Rattle.std.proofs.Common.{◌≡◌, ℕ, ◌<◌, Bool, true, [], ◌∷◌, ◌++◌, length, Some, None, sym, ◌∙◌, ap, subst}
use Rattle.validator_core.specs.Acceptance.Standing.{Hears, AreSoundTables}
use Rattle.validator_core.specs.Acceptance.Taken.{with_entry}
use Rattle.validator_core.proofs.AcceptanceLemmas.Verdict.{standing_heard}
use Rattle.claim_table.specs.ClaimTable.Table.{Table}
use Rattle.claim_table.specs.ClaimTable.Rows.{heard, is_raised, unheard, verdict_of}
use Rattle.validator_core.specs.Tables.View.{View, with_claims, with_rows}
use Rattle.journal.specs.declared.journal.entry.Entry.TheVariants.{Heard}
use Rattle.journal.specs.declared.journal.question.Question.{Question}
use Rattle.journal.proofs.JournalLemmas.Places.{some_at}
use Rattle.validator_core.specs.TableChanges.Entries.{signature_asked}

-- whatever signature is pending, the tables stand
stands_pending : (v : View) (claims : Table) → AreSoundTables (with_rows claims.rows v) → AreSoundTables (with_claims claims v)
stands_pending v claims is = record {
  spelled = is.spelled;
  differ = is.differ;
  entries_held = is.entries_held;
  accepted_held = is.accepted_held;
  grown = is.grown;
  log = is.log;
  claims = is.claims;
}

module _ (old h : View) (q : Question) (yes : Bool)
    (h_is : h ≡ with_claims (record { rows = heard (signature_asked q) yes old.claims.rows; pending = Some (signature_asked q) }) old)
    (back : unheard (signature_asked q) h.claims.rows ≡ old.claims.rows) where
  -- HEARD: with its entry
  pub hears : (reader : ℕ) (new : View) → AreSoundTables old → q.body < length old.held → is_raised old.claims.rows (signature_asked q) ≡ true → verdict_of old.claims.rows (signature_asked q) ≡ None
      → new ≡ record h { entries = h.entries ++ Heard reader q.body q.key q.sig yes ∷ [] } → Hears (signature_asked q) yes reader old new
  hears reader new is low raised none new_is =
      let b = some_at old.held q.body low in
      let e = Heard reader q.body q.key q.sig yes in
      let now : new ≡ with_claims (record { rows = heard (signature_asked q) yes old.claims.rows; pending = Some (signature_asked q) }) (with_entry e old) =
      new_is ∙ ap (λ (v : View). record v { entries = v.entries ++ e ∷ [] }) h_is in
      record {
        is = now;
        back = ap (λ v. unheard (signature_asked q) v.claims.rows) new_is ∙ back;
        sound = subst AreSoundTables (sym now) (stands_pending (with_entry e old) (record { rows = heard (signature_asked q) yes old.claims.rows; pending = Some (signature_asked q) })
            (standing_heard old is reader q.body b.0 b.1 low q.key q.sig yes raised none));
      }

  -- BACK: taken back, nothing has changed
  pub taken_back : (g new : View) → g ≡ h → old.claims.pending ≡ None → new ≡ with_claims (record { rows = unheard (signature_asked q) g.claims.rows; pending = None }) g → new ≡ old
  taken_back g new g_is idle new_is =
      new_is
      ∙ ap (λ v. with_claims (record { rows = unheard (signature_asked q) v.claims.rows; pending = None }) v) g_is
      ∙ ap (λ v. with_claims (record { rows = unheard (signature_asked q) h.claims.rows; pending = None }) v) h_is
      ∙ (λ i. with_claims (record { rows = back i; pending = sym idle i }) old)
