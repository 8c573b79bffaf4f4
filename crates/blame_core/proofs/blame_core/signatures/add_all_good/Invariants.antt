use Rattle.std.proofs.Common.{◌≡◌, ◌++◌, take}
use Rattle.std.specs.Prelude.{flat_map, slice_get}
use Rattle.blame_core.specs.BlameCore.Signatures.{good_at}
use Rattle.blame_core.proofs.blame_core.signatures.add_all_good.Given as goal

-- the signatures of the entries so far are added
abbrev pub invariant-loop-number : goal.invariant-loop-number
invariant-loop-number l = l.good.items ≡ l.initial.good.items
    ++ flat_map (λ i. good_at l.fn.core.held l.fn.text (slice_get l.fn.core.entries i)) (take l.number-index l.entries)
