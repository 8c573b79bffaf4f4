use Rattle.std.proofs.Common.{◌≡◌, ◌≤◌, ◌++◌, ◌+◌, length, take, drop, sum_by}
use Rattle.cesr_stream.specs.Groups.{elements_of}
use Rattle.cesr_stream.specs.Messages.{kept_groups}
use Rattle.cesr_stream.proofs.kept.count_kept.Given as goal

-- all the groups so far are kept, and the others are judged behind them
abbrev pub invariant-loop-group : goal.invariant-loop-group
invariant-loop-group l = record {
  at : l.count ≡ l.group-index;
  some : l.count ≤ length l.groups;
  few : l.used ≤ l.limit;
  counted : l.used ≡ l.before + sum_by elements_of (take l.count l.groups);
  rest : take l.count l.groups ++ kept_groups l.limit l.used (drop l.count l.groups) ≡ kept_groups l.limit l.before l.groups;
}
