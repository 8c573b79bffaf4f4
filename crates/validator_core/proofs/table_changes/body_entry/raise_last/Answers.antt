use Rattle.std.proofs.Common.{◌≡◌, Some, refl, sym, ◌∙◌, ap, subst}
use Rattle.std.specs.Prelude.{slice_get}
use Rattle.std.proofs.lemmas.Result.{on_ok_weaker}
use Rattle.validator_core.specs.Acceptance.Standing.{Extends}
use Rattle.validator_core.proofs.AcceptanceLemmas.Rewound.{extends_claimed}
use Rattle.claim_table.specs.ClaimTable.Rows.{raised_all}
use Rattle.validator_core.specs.Tables.View.{View}
use Rattle.journal.proofs.JournalLemmas.Places.{some_at}
use Rattle.validator_core.proofs.TableChangesLemmas.EnteredClaims.{named_event, named_receipt, stands_again}
use Rattle.validator_core.proofs.TableChangesLemmas.LoggedTables.{extends_logged, extends_some, logged_told, rows_then, whichever}
use Rattle.validator_core.proofs.table_changes.body_entry.raise_last.Goals as goal

pub raise_entry_if_standing-requires : goal.raise_entry_if_standing-requires
raise_entry_if_standing-requires c = logged_told c.args.number c.args.entry c.args.tables.now c.requires

pub raise_receipt-requires : goal.raise_receipt-requires
raise_receipt-requires c =
    let b = some_at c.requires.before.held c.args.number c.requires.low in
    let named = named_receipt b.0.event c.in-Some.name (c.in-Some.ensures b.0 (ap (λ (v : View). slice_get v.held c.args.number) c.requires.is ∙ b.1)) in
    record { number = c.args.number; told = c.requires; body = b.0; at = b.1; receipt = named.0; name_is = named.1 }

pub returns-in-None-clause-ok : goal.returns-in-None-clause-ok
returns-in-None-clause-ok c =
    let b = some_at c.requires.before.held c.args.number c.requires.low in
    let at : slice_get c.args.tables.now.held c.args.number ≡ Some b.0 = ap (λ (v : View). slice_get v.held c.args.number) c.requires.is ∙ b.1 in
    on_ok_weaker c.raise_entry_if_standing.result (λ told. stands_again c.args.tables.now c.raise_entry_if_standing.new.tables c.args.number c.args.entry c.requires b.0 at (named_event b.0.event (c.in-None.ensures b.0 at)) (told b.0 at))
    c.raise_entry_if_standing.ensures.ok

pub returns-in-None-clause-rows : goal.returns-in-None-clause-rows
returns-in-None-clause-rows c =
    let b = some_at c.requires.before.held c.args.number c.requires.low in
    let at : slice_get c.args.tables.now.held c.args.number ≡ Some b.0 = ap (λ (v : View). slice_get v.held c.args.number) c.requires.is ∙ b.1 in
    whichever c.raise_entry_if_standing.result c.raise_entry_if_standing.ensures.ok c.raise_entry_if_standing.ensures.err
    (λ told. (let r = told b.0 at in rows_then c.args.tables.now c.args.tables.now c.raise_entry_if_standing.new.tables (raised_all c.args.tables.now.claims.rows r.added) refl r.new_is))
    (λ some. rows_then c.args.tables.now c.args.tables.now c.raise_entry_if_standing.new.tables (raised_all c.args.tables.now.claims.rows some.added) refl some.new_is)

pub returns-in-None-clause-extends : goal.returns-in-None-clause-extends
returns-in-None-clause-extends c =
    let b = some_at c.requires.before.held c.args.number c.requires.low in
    let at : slice_get c.args.tables.now.held c.args.number ≡ Some b.0 = ap (λ (v : View). slice_get v.held c.args.number) c.requires.is ∙ b.1 in
    let itself = extends_logged c.args.tables.now (logged_told c.args.number c.args.entry c.args.tables.now c.requires) in
    whichever c.raise_entry_if_standing.result c.raise_entry_if_standing.ensures.ok c.raise_entry_if_standing.ensures.err
    (λ told. (let r = told b.0 at in subst (Extends c.args.tables.now) (sym r.new_is) (extends_claimed c.args.tables.now c.args.tables.now r.added itself)))
    (λ some. extends_some c.args.tables.now c.args.tables.now c.raise_entry_if_standing.new.tables c.args.number itself some)
