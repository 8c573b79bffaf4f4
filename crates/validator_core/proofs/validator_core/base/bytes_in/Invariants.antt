use Rattle.std.proofs.Common.{◌≡◌, ℕ, List, length, take}
use Rattle.std.specs.Prelude.{sum_by}
use Rattle.validator_core.proofs.validator_core.base.bytes_in.Given as goal

-- the bytes of the texts so far
abbrev pub invariant-loop-text : goal.invariant-loop-text
invariant-loop-text l = l.bytes ≡ sum_by (λ (t : List ℕ). length t) (take l.text-index l.text-items)
