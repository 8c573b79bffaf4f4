use Rattle.std.proofs.Common.{slice_get, sym, ◌∙◌}
use Rattle.claim_table.specs.ClaimTable.Keeping.{is_of_at}
use Rattle.claim_table.proofs.ClaimTableLemmas.Hints.{least}
use Rattle.claim_table.proofs.claim_table.claim_rows.first_of.Goals as goal

pub returns-then-is_row_of : goal.returns-then-is_row_of
returns-then-is_row_of c = (
  sym c.is_row_of.ensures ∙ c.if-is_row_of.true,
  least (λ n. is_of_at c.args.signature.now (slice_get c.args.rows.now n)) c.args.numbers.now c.loop-number.number-index c.requires c.loop-number-test.true c.loop-number.invariant,
)
