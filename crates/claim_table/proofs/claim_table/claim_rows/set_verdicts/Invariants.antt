use Rattle.std.proofs.Common.{◌≡◌, ◌<◌, ◌++◌, ℕ, Some, slice_get}
use Rattle.std.specs.Prelude.{slice_index_or}
use Rattle.claim_table.specs.ClaimTable.BodyParts.{BodyPart}
use Rattle.claim_table.specs.declared.claim_table.row.Row.{Row}
use Rattle.claim_table.specs.ClaimTable.Counts.{amount, is_entered}
use Rattle.claim_table.specs.ClaimTable.Keeping.{AreCounted}
use Rattle.claim_table.specs.ClaimTable.Rows.{with_verdict, with_verdicts}
use Rattle.claim_table.proofs.claim_table.claim_rows.set_verdicts.Given as goal

-- the rows at the places so far have the verdict, and setting it everywhere still gives the same
abbrev pub invariant-loop-k : goal.invariant-loop-k
invariant-loop-k l = record {
  rest : with_verdicts l.signature l.verdict l.rows.items ≡ with_verdicts l.signature l.verdict l.fn.rows.items;
  done : (k n : ℕ) (r : Row) → k < l.k → slice_index_or (l.few ++ l.many) k n ≡ n → slice_get l.rows.items n ≡ Some r → with_verdict l.signature l.verdict r ≡ r;
  counted : AreCounted l.rows.items (amount l.counts);
  entries : (q : BodyPart) → is_entered l.counts q ≡ is_entered l.fn.counts q;
}
