use Rattle.std.proofs.Common.{◌≡◌, take, length}
use Rattle.claim_table.specs.ClaimTable.Keeping.{IsSound}
use Rattle.claim_table.proofs.claim_table.claim_rows.ClaimRows.truncate.Given as goal

abbrev pub invariant-loop-self : goal.invariant-loop-self
invariant-loop-self l = record {
  sound : IsSound l.self;
  pending : l.self.pending ≡ l.fn.self.pending;
  front : take l.len l.self.rows.items ≡ take l.len l.fn.self.rows.items;
}

abbrev pub decreases-loop-self : goal.decreases-loop-self
decreases-loop-self l = length l.self.rows.items
