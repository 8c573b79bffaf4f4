use Rattle.std.specs.Prelude.{◌≡◌, ◌≤◌, ◌-◌, length, map, All, false}
use Rattle.std.specs.Vec.{vec_capacity}
use Rattle.lists.specs.KeriSpecs.Shown.{HasNone}
use Rattle.run_status.specs.DoorLinks.Taken.{AreTaken}
use Rattle.run_status.proofs.door_links.taken.take_links.Given as goal

-- what came so far, of a door that didn't fail yet
abbrev pub invariant-loop-door : goal.invariant-loop-door
invariant-loop-door g l = record {
  few : length l.taken.sources.items ≤ l.wanted;
  room : l.wanted ≤ vec_capacity l.taken.sources;
  sink_room : l.wanted ≤ vec_capacity l.taken.sinks;
  each : length l.taken.sinks.items ≡ length l.taken.sources.items;
  taken : AreTaken (g.D.Door.left l.fn.door) (g.D.Door.left l.door) (map g.D.Source.Source.left l.taken.sources.items);
  unfailed : l.taken.failed ≡ false;
  same : g.D.Door.faults l.door ≡ g.D.Door.faults l.fn.door;
  sources : All (λ source. g.D.Source.Source.faults source ≡ 0) l.taken.sources.items;
  sinks : All (λ sink. g.D.Sink.Sink.faults sink ≡ 0) l.taken.sinks.items;
  unwritten : All (λ sink. HasNone (g.D.Sink.Sink.written sink)) l.taken.sinks.items;
}

abbrev pub decreases-loop-door : goal.decreases-loop-door
decreases-loop-door g l = l.wanted - length l.taken.sources.items
