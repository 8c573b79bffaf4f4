use Rattle.std.proofs.Common.{◌≡◌}
use Rattle.std.specs.Prelude.{filter}
use Rattle.std.specs.List.{list_any}
use Rattle.key_state.specs.Exposure.{opens, numbers_below}
use Rattle.key_state.proofs.exposure.opened.Given as goal

abbrev pub invariant-loop-place : goal.invariant-loop-place
invariant-loop-place l = l.places ≡ filter (λ j. list_any (opens l.next l.keys j) l.sigs) (numbers_below l.place)
