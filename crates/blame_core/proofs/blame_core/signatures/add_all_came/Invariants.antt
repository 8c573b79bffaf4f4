use Rattle.std.proofs.Common.{◌≡◌, ◌++◌, take}
use Rattle.std.specs.Prelude.{flat_map, slice_get}
use Rattle.validator_core.specs.Tables.View.{body_of}
use Rattle.blame_core.specs.BlameCore.Signatures.{came_at}
use Rattle.blame_core.proofs.blame_core.signatures.add_all_came.Given as goal

-- the signatures of the entries so far are added
abbrev pub invariant-loop-number : goal.invariant-loop-number
invariant-loop-number l = l.came.items ≡ l.initial.came.items
    ++ flat_map (λ i. came_at l.fn.core.held (body_of l.fn.text l.fn.event) (slice_get l.fn.core.entries i)) (take l.number-index l.entries)
