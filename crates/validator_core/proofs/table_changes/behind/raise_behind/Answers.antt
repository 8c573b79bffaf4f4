use Rattle.std.proofs.Common.{◌<◌, length, refl, sym, subst, take, get_or}
use Rattle.std.proofs.lemmas.List.{take_all, take_more}
use Rattle.validator_core.specs.Tables.View.{View}
use Rattle.validator_core.proofs.AcceptanceLemmas.Rewound.{extends_then}
use Rattle.validator_core.specs.TableChanges.Turning.{IsTurning}
use Rattle.validator_core.proofs.TableChangesLemmas.Lasts.{got_contained}
use Rattle.validator_core.proofs.TableChangesLemmas.LoggedTables.{extends_logged, logged_rows, rows_then}
use Rattle.validator_core.proofs.TableChangesLemmas.EachOnce.{once}
use Rattle.validator_core.proofs.table_changes.behind.raise_behind.Goals as goal

pub loop-number-init : goal.loop-number-init
loop-number-init c = record { turning = λ v d t. t; rows = refl; extends = extends_logged c.args.tables.now c.requires.logged }

pub raise_new-requires-clause-logged : goal.raise_new-requires-clause-logged
raise_new-requires-clause-logged c = logged_rows c.args.tables.now c.loop-number.tables c.loop-number.tables.claims.rows c.loop-number.invariant.rows c.requires.logged

pub raise_new-requires-clause-held : goal.raise_new-requires-clause-held
raise_new-requires-clause-held c =
    let low = c.requires.held (get_or c.args.numbers.now c.loop-number.number-index 0) (got_contained c.args.numbers.now c.loop-number.number-index 0 c.loop-number-test.true) in
    subst (λ (v : View). get_or c.args.numbers.now c.loop-number.number-index 0 < length v.held) (sym c.loop-number.invariant.rows) low

pub returns-in_err-raise_new-clause-extends : goal.returns-in_err-raise_new-clause-extends
returns-in_err-raise_new-clause-extends c = extends_then c.args.tables.now c.loop-number.tables c.raise_new.new.tables c.loop-number.invariant.extends c.raise_new.ensures.extends

pub loop-number-preserved : goal.loop-number-preserved
loop-number-preserved c =
    let xs = c.args.numbers.now in let i = c.loop-number.number-index in
    record {
      turning = λ v d t. subst (λ done. IsTurning v d done c.raise_new.new.tables) (sym (take_more xs i 0 c.loop-number-test.true))
          (c.in_ok-raise_new.ensures.ok v d (take i xs) (once xs i c.requires.rising c.loop-number-test.true) (c.loop-number.invariant.turning v d t));
      rows = rows_then c.args.tables.now c.loop-number.tables c.raise_new.new.tables c.raise_new.new.tables.claims.rows c.loop-number.invariant.rows c.raise_new.ensures.rows;
      extends = extends_then c.args.tables.now c.loop-number.tables c.raise_new.new.tables c.loop-number.invariant.extends c.raise_new.ensures.extends;
    }

pub returns-clause-ok : goal.returns-clause-ok
returns-clause-ok c = λ v d t. subst (λ done. IsTurning v d done c.loop-number.tables) (take_all c.loop-number.number-index c.args.numbers.now c.loop-number-test.false) (c.loop-number.invariant.turning v d t)
