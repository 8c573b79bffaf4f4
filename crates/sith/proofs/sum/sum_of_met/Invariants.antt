use Rattle.std.proofs.Common.{◌≡◌, ◌≤◌, ◌+◌, ◌-◌, ◌^◌, drop}
use Rattle.std.specs.List.{sum_by}
use Rattle.sith.specs.Clauses.{sum_met, shares_at}
use Rattle.sith.proofs.Sums.{capped}
use Rattle.sith.proofs.sum.sum_of_met.Given as goal

-- the sum so far and that of the weights that are left are the whole sum
abbrev pub invariant-loop-member : goal.invariant-loop-member
invariant-loop-member g l = record {
  sum : capped (l.sum + sum_met l.whole (shares_at g.M.Member.weight g.M.Member.size g.M.Member.met (drop l.member-index l.members) l.index l.indices))
      ≡ capped (sum_met l.whole (shares_at g.M.Member.weight g.M.Member.size g.M.Member.met l.members l.start l.indices));
  most : l.sum ≤ 2 ^ 128 - 1;
  few : l.index + sum_by g.M.Member.size (drop l.member-index l.members) ≤ 65535;
}
