use Rattle.std.proofs.Common.{◌≡◌, ◌⊎◌, ℕ, true, ◌&&◌, Some, take}
use Rattle.std.specs.Prelude.{Contains, slice_get}
use Rattle.std.specs.List.Sorted.{IsStrictlySortedBy}
use Rattle.std.specs.Ordering.{nat_cmp}
use Rattle.claim_table.specs.CoreLaws.Waking.{is_anchored, is_there, is_waiting}
use Rattle.journal.specs.declared.journal.body.Body.{Body}
use Rattle.validator_core.specs.Tables.View.{log_of}
use Rattle.validator_core.specs.TableChanges.Awaited.{IsNextAt}
use Rattle.validator_core.proofs.table_changes.woken.add_due.Given as goal

abbrev pub invariant-loop-number : goal.invariant-loop-number
invariant-loop-number l = record {
  kept : (n : ℕ) → Contains l.initial.due.keys n → Contains l.due.keys n;
  there : (n : ℕ) (b : Body) → Contains (take l.number-index l.numbers) n → slice_get l.tables.held n ≡ Some b
      → (is_waiting (log_of l.tables) b && is_there (log_of l.tables) b && is_anchored l.mode (log_of l.tables) b) ≡ true → Contains l.due.keys n;
  few : (n : ℕ) → Contains l.due.keys n → Contains l.initial.due.keys n ⊎ (Contains l.numbers n × IsNextAt l.mode l.tables n);
  rising : IsStrictlySortedBy nat_cmp l.initial.due.keys → IsStrictlySortedBy nat_cmp l.due.keys;
}
