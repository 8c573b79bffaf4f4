use Rattle.std.proofs.Common.{◌≡◌, map, take}
use Rattle.std.specs.Prelude.{All}
use Rattle.validator_core.specs.ValidatorCore.Views.{IsPlaced}
use Rattle.validator_core.proofs.validator_core.views.placed.Given as goal

-- the first sets, each with its place
abbrev pub invariant-loop-set : goal.invariant-loop-set
invariant-loop-set l = record {
  bodies : map (λ c. c.bodies) l.found.items ≡ map (λ set. set.items) (take l.set-index l.sets);
  places : All (IsPlaced l.events) l.found.items;
}
