use Rattle.std.proofs.Common.{◌≡◌, ◌<◌, ℕ, false, slice_get}
use Rattle.std.specs.Prelude.{slice_index_or}
use Rattle.claim_table.specs.ClaimTable.Keeping.{is_of_at}
use Rattle.claim_table.proofs.claim_table.claim_rows.first_of.Given as goal

abbrev pub invariant-loop-number : goal.invariant-loop-number
invariant-loop-number l = (k n : ℕ) → k < l.number-index → slice_index_or l.numbers k n ≡ n → is_of_at l.signature (slice_get l.rows n) ≡ false
