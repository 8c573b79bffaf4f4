use Rattle.std.proofs.Common.{◌≡◌, take}
use Rattle.validator_core.specs.Acceptance.Standing.{Extends}
use Rattle.validator_core.specs.Tables.View.{with_rows}
use Rattle.validator_core.specs.TableChanges.Entries.{IsReceipted}
use Rattle.validator_core.proofs.TableChangesLemmas.ReceiptClaims.{AreDone}
use Rattle.validator_core.proofs.table_changes.standing_claims.raise_receipt.Given as goal

abbrev pub invariant-loop-number : goal.invariant-loop-number
invariant-loop-number l = record {
  rows : l.tables ≡ with_rows l.tables.claims.rows l.initial.tables;
  done : (r : IsReceipted l.name l.entry l.initial.tables) → AreDone l.name l.entry l.initial.tables r (take l.number-index l.number-items) l.tables.claims.rows;
  extends : Extends l.initial.tables l.tables;
}
