use Rattle.std.proofs.Common.{◌≡◌, ◌≤◌, ◌+◌, ◌-◌, ◌^◌, drop, map}
use Rattle.sith.specs.Clauses.{sum_met, all_met}
use Rattle.sith.proofs.Sums.{capped}
use Rattle.sith.proofs.sum.sum_of_all.Given as goal

-- the sum so far and that of the weights that are left are the whole sum
abbrev pub invariant-loop-member : goal.invariant-loop-member
invariant-loop-member g l = record {
  sum : capped (l.sum + sum_met l.whole (all_met (map g.M.Member.weight (drop l.member-index l.members)))) ≡ capped (sum_met l.whole (all_met (map g.M.Member.weight l.members)));
  most : l.sum ≤ 2 ^ 128 - 1;
}
