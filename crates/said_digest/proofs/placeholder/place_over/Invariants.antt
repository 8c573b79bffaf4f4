use Rattle.std.proofs.Common.{◌+◌, ◌≤◌, take, All}
use Rattle.said_digest.proofs.placeholder.place_over.Given as goal

abbrev pub invariant-loop-place : goal.invariant-loop-place
invariant-loop-place l = All (λ place. place ≤ l.at → place + 44 ≤ l.at) (take l.place-index l.places)
