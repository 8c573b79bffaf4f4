use Rattle.std.proofs.Common.{◌≤◌, ◌<◌, get_or, arith}
use Rattle.std.proofs.lemmas.List.Elements.{All-more}
use Rattle.said_digest.proofs.placeholder.next_place.Goals as goal
use Rattle.said_digest.proofs.placeholder.next_place.Goals.{then-at-place, else-at-place}

pub loop-place-preserved : goal.loop-place-preserved
loop-place-preserved c =
    let places = c.args.places.now in
    let i = c.loop-place.place-index in
    let place = get_or places i 0 in
    let next = c.if-at-place.next in
    let nearer : (c.args.at < next) × (next ≤ c.loop-place.next) × (c.args.at < place → next ≤ place) =
    elim c.if-at-place.branch [
      | then-at-place w ↦ (omega arith, omega arith, λ _. omega arith)
      | else-at-place w ↦ (omega arith, omega arith, λ past. omega (arith, past))
    ] in
    record {
      after = nearer.0;
      before_end = omega arith;
      first = All-more (λ p. c.args.at < p → next ≤ p) places i 0 (omega arith)
          (λ k d below past. omega (arith, c.loop-place.invariant.first k d below past)) nearer.2;
    }
