use Rattle.std.proofs.Common.{refl, sym, ◌∙◌, subst, take, get_or}
use Rattle.std.proofs.lemmas.List.{take_all, take_more}
use Rattle.std.specs.Prelude.{Contains, slice_get}
use Rattle.std.specs.List.Sorted.{IsStrictlyIncreasing}
use Rattle.validator_core.specs.Acceptance.Standing.{Extends}
use Rattle.validator_core.proofs.AcceptanceLemmas.Rewound.{extends_claimed}
use Rattle.claim_table.specs.ClaimTable.Rows.{raised_all}
use Rattle.validator_core.specs.Tables.Raised.{claims_at}
use Rattle.validator_core.proofs.TableChangesLemmas.LoggedTables.{extends_logged, extends_some, logged_rows, logged_told, rows_then, some_raised}
use Rattle.validator_core.proofs.TableChangesLemmas.EachOnce.{once}
use Rattle.validator_core.proofs.TableChangesLemmas.ReceiptClaims.{AreDone, done_begins, done_ends, done_more}
use Rattle.validator_core.proofs.table_changes.standing_claims.raise_receipt.Goals as goal

pub loop-number-init : goal.loop-number-init
loop-number-init c = record {
  rows = refl;
  done = λ r. done_begins c.args.name.now c.args.entry c.args.tables.now r;
  extends = extends_logged c.args.tables.now (logged_told c.requires.number c.args.entry c.args.tables.now c.requires.told);
}

pub raise_entry_if_standing-requires : goal.raise_entry_if_standing-requires
raise_entry_if_standing-requires c = logged_rows c.args.tables.now c.loop-number.tables c.loop-number.tables.claims.rows c.loop-number.invariant.rows (logged_told c.requires.number c.args.entry c.args.tables.now c.requires.told)

pub returns-in_err-raise_entry_if_standing-clause-rows : goal.returns-in_err-raise_entry_if_standing-clause-rows
returns-in_err-raise_entry_if_standing-clause-rows c = (let some = c.in_err-raise_entry_if_standing.ensures.err in
    rows_then c.args.tables.now c.loop-number.tables c.raise_entry_if_standing.new.tables (raised_all c.loop-number.tables.claims.rows some.added) c.loop-number.invariant.rows some.new_is)

pub returns-in_err-raise_entry_if_standing-clause-extends : goal.returns-in_err-raise_entry_if_standing-clause-extends
returns-in_err-raise_entry_if_standing-clause-extends c = extends_some c.args.tables.now c.loop-number.tables c.raise_entry_if_standing.new.tables (get_or c.deref-number-items.result.now c.loop-number.number-index 0) c.loop-number.invariant.extends c.in_err-raise_entry_if_standing.ensures.err

pub loop-number-preserved : goal.loop-number-preserved
loop-number-preserved c =
    let v = c.args.tables.now in let cur = c.loop-number.tables in let new = c.raise_entry_if_standing.new.tables in
    let xs = c.deref-number-items.result.now in let i = c.loop-number.number-index in let m = get_or xs i 0 in
    let ok = c.in_ok-raise_entry_if_standing.ensures.ok in let unheld = c.in_ok-raise_entry_if_standing.ensures.unheld in
    let rising = subst IsStrictlyIncreasing (sym (c.deref-number-items.ensures.value ∙ c.in_ok-numbers.ensures.items)) c.named.ensures.rising in
    let some = some_raised cur new m (λ b. claims_at cur.held b (slice_get cur.entries c.args.entry)) ok unheld in
    record {
      rows = rows_then v cur new (raised_all cur.claims.rows some.0) c.loop-number.invariant.rows some.1;
      done = λ r. subst (λ d. AreDone c.args.name.now c.args.entry v r d new.claims.rows) (sym (take_more xs i 0 c.loop-number-test.true))
          (done_more c.args.name.now c.args.entry v r cur new c.loop-number.invariant.rows (take i xs) m (c.loop-number.invariant.done r) (once xs i rising c.loop-number-test.true) ok unheld);
      extends = subst (Extends v) (sym some.1) (extends_claimed v cur some.0 c.loop-number.invariant.extends);
    }

pub returns-clause-ok : goal.returns-clause-ok
returns-clause-ok c =
    let xs = c.deref-number-items.result.now in
    let are = c.deref-number-items.ensures.value ∙ c.in_ok-numbers.ensures.items in
    done_ends c.args.name.now c.args.entry c.args.tables.now c.requires c.loop-number.tables c.loop-number.invariant.rows xs
    (subst (λ d. AreDone c.args.name.now c.args.entry c.args.tables.now c.requires d c.loop-number.tables.claims.rows) (take_all c.loop-number.number-index xs c.loop-number-test.false) (c.loop-number.invariant.done c.requires))
    (λ n b at named. subst (λ l. Contains l n) (sym are) (c.named.ensures.all n b at named))

pub returns-clause-rows : goal.returns-clause-rows
returns-clause-rows c = c.loop-number.invariant.rows

pub returns-clause-extends : goal.returns-clause-extends
returns-clause-extends c = c.loop-number.invariant.extends
