use Rattle.std.proofs.Common.{◌+◌, ◌≤◌, arith}
use Rattle.std.proofs.lemmas.Grind.{common_steps}
use Rattle.std.proofs.lemmas.List.Elements.{All-more}
use Rattle.said_digest.proofs.placeholder.place_over.Goals as goal

pub loop-place-preserved : goal.loop-place-preserved
loop-place-preserved c = All-more (λ place. place ≤ c.args.at → place + 44 ≤ c.args.at) c.args.places.now c.loop-place.place-index 0 (omega arith) c.loop-place.invariant (grind (arith, common_steps))
