-- Tables whose bodies and log are as they were, and tables behind others.
use Rattle.std.proofs.Common.{◌≡◌, ℕ, false, List, [], ◌∷◌, ◌++◌, Option, Some, None, refl, sym, ◌∙◌, ap, subst}
use Rattle.std.proofs.Math.Seq.{take-length}
use Rattle.std.specs.Prelude.{slice_get, Result, Ok, Err, OnOk, OnErr}
use Rattle.validator_core.specs.Tables.AcceptedLog.Cuts.{IsLog}
use Rattle.validator_core.proofs.TablesLemmas.AcceptedLogLemmas.Extensions.{extends_refl}
use Rattle.validator_core.specs.Acceptance.Standing.{Extends, IsHeld, AreSoundTables}
use Rattle.validator_core.proofs.AcceptanceLemmas.NewBody.{chosen_more, differ_push, last_or}
use Rattle.validator_core.proofs.AcceptanceLemmas.Rewound.{extends_claimed, extends_held, extends_told}
use Rattle.validator_core.specs.Acceptance.Taken.{with_entry}
use Rattle.claim_table.specs.declared.claim_table.claimed.Claimed.{Claimed}
use Rattle.claim_table.specs.declared.claim_table.row.Row.{Row}
use Rattle.claim_table.specs.ClaimTable.Rows.{raised_all}
use Rattle.validator_core.specs.Tables.Raised.{RaisesSome}
use Rattle.validator_core.specs.Tables.View.{View, with_rows}
use Rattle.journal.specs.declared.journal.body.Body.{Body}
use Rattle.journal.specs.declared.journal.claim.Claim.{Claim}
use Rattle.journal.specs.declared.journal.entry.Entry.{Entry}
use Rattle.journal.specs.declared.journal.entry.Entry.TheVariants.{Took}
use Rattle.journal.specs.Journal.Grown.{IsGrown}
use Rattle.journal.specs.Journal.Logs.{is_in}
use Rattle.validator_core.specs.TableChanges.Entries.{IsLogged, IsTold, RaisesFound}

-- with one entry more
pub logged_entry : (v : View) (e : Entry) → AreSoundTables v → IsLogged (with_entry e v)
logged_entry v e is = record { spelled = is.spelled; differ = is.differ; grown = is.grown; log = is.log }

pub logged_told : (number entry : ℕ) (v : View) → IsTold number entry v → IsLogged v
logged_told number entry v is = subst IsLogged (sym is.is) (logged_entry is.before (Took is.reader number is.claims) is.sound)

-- with other rows
pub logged_rows : (v w : View) (rows : List Row) → w ≡ with_rows rows v → IsLogged v → IsLogged w
logged_rows v w rows e is = subst IsLogged (sym e) (record { spelled = is.spelled; differ = is.differ; grown = is.grown; log = is.log })

-- with a body and its entry more
pub logged_body : (v : View) (b : Body) (e : Entry) → AreSoundTables v → IsHeld b → is_in v.held b ≡ false → IsLogged (with_entry e (record v { held = v.held ++ b ∷ [] }))
logged_body v b e is is_held outside =
    let same = chosen_more v.held (b ∷ []) v.log.numbers is.accepted_held in
    record {
      spelled = λ m c at. last_or v.held b m c at (λ k d. IsHeld d) is_held (λ old. is.spelled m c old);
      differ = differ_push v.held b is.differ outside;
      grown = subst IsGrown (sym same) is.grown;
      log = subst (λ l. IsLog l v.log) (sym same) is.log;
    }

-- tables extend themselves
pub extends_logged : (v : View) → IsLogged v → Extends v v
extends_logged v is = record {
  held = take-length v.held;
  entries = take-length v.entries;
  log = extends_refl v.log (is.log.places ∙ sym is.log.numbers);
  rows = take-length v.claims.rows;
  pending = refl;
  released = refl;
}

-- and what raising some claims makes of them extends what they extend
pub extends_some : (u v w : View) (n : ℕ) → Extends u v → RaisesSome n v w → Extends u w
extends_some u v w n more some = subst (Extends u) (sym some.new_is) (extends_claimed u v some.added more)

-- and a body and its entry more
pub extends_body : (v : View) (b : Body) (e : Entry) → AreSoundTables v → Extends v (with_entry e (record v { held = v.held ++ b ∷ [] }))
extends_body v b e is = extends_told v (record v { held = v.held ++ b ∷ [] }) e (extends_held v b is)

-- what holds whatever came
pub whichever : {T E P Q X : Type 0} (r : Result T E) → OnOk r P → OnErr r Q → (P → X) → (Q → X) → X
whichever (Ok x) p q one other = one p
whichever (Err e) p q one other = other q

-- rows behind rows
pub rows_then : (v w u : View) (rows : List Row) → w ≡ with_rows w.claims.rows v → u ≡ with_rows rows w → u ≡ with_rows u.claims.rows v
rows_then v w u rows w_is u_is = u_is ∙ ap (with_rows rows) w_is ∙ ap (λ r. with_rows r v) (sym (ap (λ x. x.claims.rows) u_is))

-- where claims are raised on the body of a number, or no body has it, some claims more are raised
pub some_raised : (v w : View) (n : ℕ) (claims : Body → List Claim) → ((b : Body) → slice_get v.held n ≡ Some b → RaisesFound n b (claims b) v w) → (slice_get v.held n ≡ None → w ≡ v)
    → (cs : List Claimed) × (w ≡ with_rows (raised_all v.claims.rows cs) v)
some_raised v w n claims found none = by (slice_get v.held n) refl
  where
    by : (o : Option Body) → slice_get v.held n ≡ o → (cs : List Claimed) × (w ≡ with_rows (raised_all v.claims.rows cs) v)
    by None e = ([], none e)
    by (Some b) e = let r = found b e in (r.added, r.new_is)
