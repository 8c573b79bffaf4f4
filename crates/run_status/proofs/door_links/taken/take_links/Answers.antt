use Rattle.std.proofs.Common.{◌≡◌, ◌++◌, ◌∷◌, [], rules}
use Rattle.lists.specs.KeriSpecs.Shown.{HasNone}
use Rattle.keri_outside.specs.declared.failed.Failed.{Failed}
use Rattle.run_status.proofs.DoorLinksLemmas.Coming.{all_more, taken_more}
use Rattle.run_status.proofs.door_links.taken.take_links.Goals as goal

pub loop-door-preserved : goal.loop-door-preserved
loop-door-preserved g c =
    let old = c.loop-door.invariant in
    let came = c.in-Ok-Some.ensures in
    let link = c.in-Ok-Some.field-0-0 in
    let sources : c.push.new.self.items ≡ c.loop-door.taken.sources.items ++ link.source ∷ [] = search rules in
    let sinks : c.push-in-Ok-Some.new.self.items ≡ c.loop-door.taken.sinks.items ++ link.sink ∷ [] = search rules in
    record {
      few = search rules;
      room = search rules;
      sink_room = search rules;
      each = search rules;
      taken = rw sources (taken_more Failed (λ l. l.source) g.D.Source.Source.left (g.D.Door.left c.args.door.now) (g.D.Door.left c.loop-door.door) (g.D.Door.left c.next.new.self)
          c.loop-door.taken.sources.items link old.taken (rw c.in-Ok-Some.field-0-is at came.comes));
      unfailed = search rules;
      same = search rules;
      sources = all_more (λ source. g.D.Source.Source.faults source ≡ 0) _ _ link.source sources old.sources (rw c.in-Ok-Some.field-0-is at came.source_none_yet);
      sinks = all_more (λ sink. g.D.Sink.Sink.faults sink ≡ 0) _ _ link.sink sinks old.sinks (rw c.in-Ok-Some.field-0-is at came.sink_none_yet);
      unwritten = all_more (λ sink. HasNone (g.D.Sink.Sink.written sink)) _ _ link.sink sinks old.unwritten (rw c.in-Ok-Some.field-0-is at came.unwritten);
    }
