use Rattle.claim_table.specs.ClaimTable.Keeping.{places_of}
use Rattle.claim_table.proofs.ClaimTableLemmas.Hints.{found_first}
use Rattle.claim_table.proofs.claim_table.claim_rows.ClaimRows.first_row.Goals as goal

pub returns : goal.returns
returns c = found_first c.args.self.now.rows.items (places_of c.args.self.now.by_signature) c.args.signature.now c.first_hinted.result c.requires.hinted
    (rw (c.as_slice.ensures.value, c.few.ensures.those, c.many.ensures.those) at c.first_hinted.ensures)
