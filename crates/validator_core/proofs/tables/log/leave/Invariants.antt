use Rattle.std.proofs.Common.{◌≡◌, ℕ, None, take}
use Rattle.std.specs.Prelude.{◌==◌, if◌then◌else◌}
use Rattle.std.specs.List.{list_any}
use Rattle.escrow.specs.Escrow.Escrow.{held}
use Rattle.validator_core.proofs.tables.log.leave.Given as goal

abbrev pub invariant-loop-number : goal.invariant-loop-number
invariant-loop-number l = (n : ℕ) → held n l.waiting ≡ (if list_any (λ m. m == n) (take l.number-index l.numbers) then None else held n l.initial.waiting)
