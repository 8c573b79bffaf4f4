-- The claims of a receipt are raised on the events that it speaks of, one after the other.
use Rattle.std.proofs.Common.{◌≡◌, ℕ, Bool, true, false, ◌&&◌, ◌==◌, List, [], ◌∷◌, ◌++◌, Option, Some, None, option_map, Contains, refl, sym, ◌∙◌, ap, subst, inl, inr, if◌then◌else◌}
use Rattle.std.specs.Prelude.{slice_get}
use Rattle.std.specs.List.{list_any}
use Rattle.std.proofs.lemmas.Bool.{cases_Bool, and_from, and_parts}
use Rattle.validator_core.specs.Acceptance.Standing.{AreSoundTables, told_of}
use Rattle.validator_core.specs.Acceptance.Turned.{turned}
use Rattle.validator_core.proofs.AcceptanceLemmas.NewBody.{low_at}
use Rattle.validator_core.proofs.AcceptanceLemmas.Receipt.{AreReceipted, found_before, found_then, receipt_begins, standing_receipt, told_receipt}
use Rattle.validator_core.specs.Acceptance.Taken.{found_by}
use Rattle.validator_core.proofs.AcceptanceLemmas.Turned.{turned_raised, turned_there}
use Rattle.claim_table.proofs.CoreLawsLemmas.Members.{member_any}
use Rattle.claim_table.specs.CoreLaws.ClaimRows.{AreFound, verdict_in}
use Rattle.claim_table.proofs.CoreLawsLemmas.Steps.{found_push, has_same}
use Rattle.claim_table.specs.declared.claim_table.row.Row.{Row}
use Rattle.validator_core.specs.declared.tables.name.Name.{Name}
use Rattle.validator_core.specs.Tables.Names.{name_of}
use Rattle.validator_core.specs.Tables.Raised.{claims_at, claims_of}
use Rattle.validator_core.specs.Tables.View.{View, log_of, with_rows}
use Rattle.validator_core.proofs.TablesLemmas.NamedRows.{same_name_is}
use Rattle.event_body.specs.EventBody.Events.{is_receipt, prefix_of, said_of, sn_of}
use Rattle.journal.specs.EventRules.Parts.{Row as Found}
use Rattle.journal.specs.declared.journal.body.Body.{Body}
use Rattle.journal.specs.declared.journal.entry.Entry.TheVariants.{Took}
use Rattle.journal.specs.Journal.History.{Told, Triple, took, claims_in, is_receipt_for}
use Rattle.journal.specs.Journal.Questions.{state_before}
use Rattle.journal.proofs.JournalLemmas.Places.{slice_get_last}
use Rattle.key_state.specs.Same.{same_digest, same_prefix}
use Rattle.key_state.proofs.Same.{number_itself, numbers}
use Rattle.validator_core.specs.TableChanges.Entries.{IsReceipted, IsTold, RaisesFound}

-- what a receipt speaks of has its name
pub names_it : (r c : Body) → is_receipt_for r c ≡ true → name_of c.event ≡ name_of r.event
names_it r c right =
    let one = and_parts (is_receipt r.event && same_digest (said_of r.event) (said_of c.event) && same_prefix (prefix_of r.event) (prefix_of c.event)) (sn_of r.event == sn_of c.event) right in
    let two = and_parts (is_receipt r.event && same_digest (said_of r.event) (said_of c.event)) (same_prefix (prefix_of r.event) (prefix_of c.event)) one.0 in
    let three = and_parts (is_receipt r.event) (same_digest (said_of r.event) (said_of c.event)) two.0 in
    sym (same_name_is (name_of r.event) (name_of c.event) (and_from _ _ (and_from _ _ two.1 one.1) three.1))

-- the claims that came by an entry, as the tables tell of it
pub claims_there : (v w : View) (number entry : ℕ) (is : IsTold number entry w) → v.held ≡ w.held → v.entries ≡ w.entries → (b : Body) → slice_get is.before.held number ≡ Some b
    → (c : Body) → claims_at v.held c (slice_get v.entries entry) ≡ claims_in c (took is.reader b is.claims)
claims_there v w number entry is held_same entries_same b at c =
    let held : v.held ≡ is.before.held = held_same ∙ ap (λ u. u.held) is.is in
    let entries : v.entries ≡ is.before.entries ++ Took is.reader number is.claims ∷ [] = entries_same ∙ ap (λ u. u.entries) is.is in
    let there : slice_get v.entries entry ≡ Some (Took is.reader number is.claims) = ap (λ es. slice_get es entry) entries ∙ ap (slice_get (is.before.entries ++ Took is.reader number is.claims ∷ [])) is.entry_is
    ∙ slice_get_last is.before.entries (Took is.reader number is.claims) in
    ap (λ h. claims_at h c (slice_get v.entries entry)) held ∙ ap (λ o. claims_at is.before.held c o) there ∙ ap (λ o. claims_of c (option_map (λ x. took is.reader x is.claims) o)) at

module _ (name : Name) (entry : ℕ) (v : View) (r : IsReceipted name entry v) where
  abbrev old : View
  old = r.told.before

  abbrev t : Told
  t = took r.told.reader r.body r.told.claims

  -- the rows once the bodies of some numbers have gone over
  abbrev pub AreDone : List ℕ → List Row → Type 0
  AreDone done rows = AreReceipted r.told.before r.told.sound r.told.reader r.number r.body r.at r.told.low r.receipt r.told.claims done rows

  abbrev was : ℕ → Body → List Found
  was = found_before r.told.before r.told.sound r.told.reader r.number r.body r.at r.told.low r.receipt r.told.claims

  abbrev now : ℕ → Body → List Found
  now = found_then r.told.before r.told.sound r.told.reader r.number r.body r.at r.told.low r.receipt r.told.claims

  pub done_begins : AreDone [] v.claims.rows
  done_begins = subst (AreDone []) (ap (λ u. u.claims.rows) (sym r.told.is))
      (receipt_begins r.told.before r.told.sound r.told.reader r.number r.body r.at r.told.low r.receipt r.told.claims)

  module _ (w u : View) (w_is : w ≡ with_rows w.claims.rows v) (done : List ℕ) (m : ℕ) (so_far : AreDone done w.claims.rows) where
    held_is : w.held ≡ r.told.before.held
    held_is = ap (λ x. x.held) w_is ∙ ap (λ x. x.held) r.told.is

    log_is : log_of w ≡ log_of r.told.before
    log_is = ap (λ x. log_of x) w_is ∙ ap (λ x. log_of x) r.told.is

    more_found : list_any (λ k. k == m) done ≡ false → (c : Body) → slice_get r.told.before.held m ≡ Some c
        → RaisesFound m c (claims_at w.held c (slice_get w.entries entry)) w u → AreDone (done ++ m ∷ []) u.claims.rows
    more_found outside c at raises =
        let claims_are = claims_there w v r.number entry r.told (ap (λ x. x.held) w_is) (ap (λ x. x.entries) w_is) r.body r.at c in
        let found : AreFound m (state_before old_log c) c.event (found_by old_log c (claims_in c t)) raises.added =
        subst (λ l. AreFound m (state_before l c) c.event (found_by l c (claims_in c t)) raises.added) log_is
        (subst (λ cs. AreFound m (state_before (log_of w) c) c.event (found_by (log_of w) c cs) raises.added) claims_are raises.found) in
        let here : now m c ≡ turned was now done m c ++ found_by old_log c (claims_in c t) =
        found_push (told_of r.told.before) t old_log c ∙ ap (λ l. l ++ found_by old_log c (claims_in c t)) (sym (ap (λ y. if y then now m c else was m c) outside)) in
        subst (AreDone (done ++ m ∷ [])) (ap (λ x. x.claims.rows) (sym raises.new_is))
        (turned_raised was now (state_before old_log) (verdict_in (told_receipt r.told.before r.told.sound r.told.reader r.number r.body r.at r.told.low r.receipt r.told.claims)) r.told.before.held w.claims.rows done m c at so_far
        (found_by old_log c (claims_in c t)) raises.added (low_at r.told.before.held m c at) found here)
      where
        old_log : List Body
        old_log = log_of r.told.before

    none_found : slice_get r.told.before.held m ≡ None → u ≡ w → AreDone (done ++ m ∷ []) u.claims.rows
    none_found none same = subst (AreDone (done ++ m ∷ [])) (ap (λ x. x.claims.rows) (sym same))
        (has_same (state_before old_log) (state_before old_log) (turned was now done) (turned was now (done ++ m ∷ [])) said said r.told.before.held w.claims.rows so_far
        (λ n c there cs found. subst (λ l. AreFound n (state_before old_log c) c.event l cs) (sym (turned_there was now done m n c (apart n c there))) found)
        (λ n c key sig there. refl))
      where
        old_log : List Body
        old_log = log_of r.told.before

        said : Triple → Option Bool
        said = verdict_in (told_receipt r.told.before r.told.sound r.told.reader r.number r.body r.at r.told.low r.receipt r.told.claims)

        apart : (n : ℕ) (c : Body) → slice_get r.told.before.held n ≡ Some c → (m == n) ≡ false
        apart n c there = elim (cases_Bool (m == n)) [
          | inr k ↦ k
          | inl k ↦ (let no : None ≡ Some c = sym none ∙ ap (slice_get r.told.before.held) (numbers m n k) ∙ there in cc)
        ]

    -- MORE: the next number goes over
    pub done_more : list_any (λ k. k == m) done ≡ false
        → ((c : Body) → slice_get w.held m ≡ Some c → RaisesFound m c (claims_at w.held c (slice_get w.entries entry)) w u) → (slice_get w.held m ≡ None → u ≡ w)
        → AreDone (done ++ m ∷ []) u.claims.rows
    done_more outside found none = by (slice_get r.told.before.held m) refl
      where
        by : (o : Option Body) → slice_get r.told.before.held m ≡ o → AreDone (done ++ m ∷ []) u.claims.rows
        by None e = none_found e (none (ap (λ h. slice_get h m) held_is ∙ e))
        by (Some c) e = more_found outside c e (found c (ap (λ h. slice_get h m) held_is ∙ e))

  -- END: when all of the name have, the tables stand
  pub done_ends : (w : View) → w ≡ with_rows w.claims.rows v → (done : List ℕ) → AreDone done w.claims.rows
      → ((n : ℕ) (c : Body) → slice_get v.held n ≡ Some c → name_of c.event ≡ name → Contains done n) → AreSoundTables w
  done_ends w w_is done so_far all = subst AreSoundTables (sym (w_is ∙ ap (with_rows w.claims.rows) r.told.is))
      (standing_receipt r.told.before r.told.sound r.told.reader r.number r.body r.at r.told.low r.receipt r.told.claims done w.claims.rows so_far
      (λ m c there right. member_any (λ k. k == m) done m (all m c (ap (λ x. slice_get x.held m) r.told.is ∙ there) (names_it r.body c right ∙ sym r.name_is)) (number_itself m)))
