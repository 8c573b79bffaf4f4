use Rattle.std.proofs.Common.{◌∙◌, sym, ap, subst}
use Rattle.std.specs.Prelude.{slice_get}
use Rattle.claim_table.specs.ClaimTable.Rows.{raised_all}
use Rattle.journal.proofs.JournalLemmas.Places.{some_at}
use Rattle.validator_core.specs.Acceptance.Standing.{Extends}
use Rattle.validator_core.proofs.AcceptanceLemmas.Rewound.{extends_claimed}
use Rattle.validator_core.proofs.TableChangesLemmas.Events.{on_ok_then}
use Rattle.validator_core.proofs.TableChangesLemmas.Steps.{only_rows}
use Rattle.validator_core.proofs.TableChangesLemmas.Turning.{held_is, passed, raised}
use Rattle.validator_core.proofs.TableChangesLemmas.LoggedTables.{extends_logged, extends_some, whichever}
use Rattle.validator_core.proofs.table_changes.behind.raise_new.Goals as goal

pub returns-then-is_behind_last-clause-ok : goal.returns-then-is_behind_last-clause-ok
returns-then-is_behind_last-clause-ok c =
    let w = c.args.tables.now in let b = some_at w.held c.args.number c.requires.held in
    on_ok_then c.raise_if_standing.result c.raise_if_standing.ensures.ok (λ all v d done new t.
    raised v d done w t c.args.number b.0 (ap (λ hs. slice_get hs c.args.number) (sym (held_is v d done w t)) ∙ b.1) new (c.is_behind_last.ensures.then b.0 b.1 c.if-is_behind_last.true) c.raise_if_standing.new.tables (all b.0 b.1))

pub returns-then-is_behind_last-clause-rows : goal.returns-then-is_behind_last-clause-rows
returns-then-is_behind_last-clause-rows c =
    let w = c.args.tables.now in let b = some_at w.held c.args.number c.requires.held in let u = c.raise_if_standing.new.tables in
    whichever c.raise_if_standing.result c.raise_if_standing.ensures.ok c.raise_if_standing.ensures.err
    (λ all. let r = all b.0 b.1 in only_rows w u (raised_all w.claims.rows r.added) r.new_is)
    (λ some. only_rows w u (raised_all w.claims.rows some.added) some.new_is)

pub returns-then-is_behind_last-clause-extends : goal.returns-then-is_behind_last-clause-extends
returns-then-is_behind_last-clause-extends c =
    let w = c.args.tables.now in let b = some_at w.held c.args.number c.requires.held in let u = c.raise_if_standing.new.tables in
    whichever c.raise_if_standing.result c.raise_if_standing.ensures.ok c.raise_if_standing.ensures.err
    (λ all. let r = all b.0 b.1 in subst (Extends w) (sym r.new_is) (extends_claimed w w r.added (extends_logged w c.requires.logged)))
    (λ some. extends_some w w u c.args.number (extends_logged w c.requires.logged) some)

pub returns-else-is_behind_last-clause-ok : goal.returns-else-is_behind_last-clause-ok
returns-else-is_behind_last-clause-ok c =
    let w = c.args.tables.now in let b = some_at w.held c.args.number c.requires.held in
    λ v d done new t. passed v d done w t c.args.number b.0 (ap (λ hs. slice_get hs c.args.number) (sym (held_is v d done w t)) ∙ b.1) new
    (c.is_behind_last.ensures.otherwise b.0 b.1 c.if-is_behind_last.false)

pub returns-else-is_behind_last-clause-extends : goal.returns-else-is_behind_last-clause-extends
returns-else-is_behind_last-clause-extends c = extends_logged c.args.tables.now c.requires.logged
