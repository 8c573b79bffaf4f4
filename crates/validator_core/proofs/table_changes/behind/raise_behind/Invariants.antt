use Rattle.std.proofs.Common.{◌≡◌, [], take}
use Rattle.journal.specs.declared.journal.body.Body.{Body}
use Rattle.validator_core.specs.Tables.View.{View, with_rows}
use Rattle.validator_core.specs.Acceptance.Standing.{Extends}
use Rattle.validator_core.specs.TableChanges.Turning.{IsTurning}
use Rattle.validator_core.proofs.table_changes.behind.raise_behind.Given as goal

abbrev pub invariant-loop-number : goal.invariant-loop-number
invariant-loop-number l = record {
  turning : (v : View) (c : Body) → IsTurning v c [] l.initial.tables → IsTurning v c (take l.number-index l.numbers) l.tables;
  rows : l.tables ≡ with_rows l.tables.claims.rows l.initial.tables;
  extends : Extends l.initial.tables l.tables;
}
