use Rattle.std.proofs.Common.{◌<◌, ◌≤◌, take, All}
use Rattle.said_digest.proofs.placeholder.next_place.Given as goal

abbrev pub invariant-loop-place : goal.invariant-loop-place
invariant-loop-place l = record {
  after : l.at < l.next;
  before_end : l.next ≤ l.end;
  first : All (λ place. l.at < place → l.next ≤ place) (take l.place-index l.places);
}
