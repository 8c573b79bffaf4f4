use Rattle.std.proofs.Common.{◌≡◌, ◌≤◌, ℕ, length}
use Rattle.claim_table.specs.ClaimTable.Hinted.{few_in}
use Rattle.claim_table.proofs.claim_table.body_numbers.reach.Given as goal

-- the bodies so far have a place, and the numbers are those that there were
abbrev pub invariant-loop-place : goal.invariant-loop-place
invariant-loop-place l = record {
  same : (b : ℕ) → few_in l.few.items b ≡ few_in l.fn.few.items b;
  reached : l.place ≤ length l.few.items;
}
