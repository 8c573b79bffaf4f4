use Rattle.std.proofs.Common.{◌≡◌, ◌<◌, ℕ, None, nat_le, nat_lt}
use Rattle.std.specs.Prelude.{◌&&◌, if◌then◌else◌}
use Rattle.escrow.specs.Escrow.Escrow.{held}
use Rattle.validator_core.proofs.tables.mark.leave_from.Given as goal

abbrev pub invariant-loop-number : goal.invariant-loop-number
invariant-loop-number l = record {
  left : (n : ℕ) → held n l.waiting ≡ (if nat_le l.from n && nat_lt n l.number then None else held n l.initial.waiting);
  first : l.to < l.from → l.number ≡ l.from;
}
