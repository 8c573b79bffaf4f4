use Rattle.std.proofs.Common.{ℕ, Bool, ◌++◌, sym, subst, slice_get}
use Rattle.claim_table.specs.ClaimTable.Keeping.{IsLeast, is_of_at}
use Rattle.claim_table.proofs.ClaimTableLemmas.Hints.{least_of_both}
use Rattle.claim_table.proofs.claim_table.claim_rows.first_hinted.Goals as goal

pub returns : goal.returns
returns c =
    let test : ℕ → Bool = λ n. is_of_at c.args.signature.now (slice_get c.args.rows.now n) in
    subst (IsLeast test (c.args.few.now ++ c.args.many.now)) (sym c.lesser.ensures)
    (least_of_both test c.args.few.now c.args.many.now c.first_of.result c.first_of-2.result c.first_of.ensures c.first_of-2.ensures)
