use Rattle.std.proofs.Common.{◌<◌, ◌≤◌, ◌^◌, take}
use Rattle.sith.specs.Divisors.{IsLeastMultiple}
use Rattle.sith.proofs.Multiples.{denominators_of}
use Rattle.sith.proofs.sum.common_multiple.Given as goal

-- the least common multiple so far
abbrev pub invariant-loop-member : goal.invariant-loop-member
invariant-loop-member g l = record {
  least : IsLeastMultiple (denominators_of g.M.Member.weight (take l.member-index l.members)) l.multiple;
  some : 0 < l.multiple;
  most : l.multiple ≤ 2 ^ 64;
}
