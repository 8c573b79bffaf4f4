use Rattle.std.proofs.Common.{◌≡◌, ◌≤◌, length}
use Rattle.claim_table.specs.ClaimTable.BodyParts.{BodyPart}
use Rattle.claim_table.specs.ClaimTable.Counts.{amount, is_entered}
use Rattle.claim_table.proofs.claim_table.part_counts.PartCounts.reach.Given as goal

-- the bodies so far have a place, and the entries are those that there were
abbrev pub invariant-loop-place : goal.invariant-loop-place
invariant-loop-place l = record {
  amounts : (q : BodyPart) → amount l.self q ≡ amount l.fn.self q;
  kept : (q : BodyPart) → is_entered l.self q ≡ is_entered l.fn.self q;
  reached : l.place ≤ length l.self.counts.items;
}
