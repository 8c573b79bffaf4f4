use Rattle.std.proofs.Common.{◌≡◌, map, sym, subst}
use Rattle.lists.specs.KeriSpecs.Shown.{HasNone}
use Rattle.run_status.specs.declared.run_outside.making.MakingKind.TheVariants.{Door as DoorKind}
use Rattle.run_status.specs.RunStatus.Readers.{source_seen}
use Rattle.keri_outside.specs.Shown.{sink_shown}
use Rattle.keri_roles.specs.CoreRoles.LinksShown.{AreTakenAt}
use Rattle.run_status.specs.RunRecord.Seen.{door_shown}
use Rattle.keri_roles.proofs.CoreRolesLemmas.Linked.{all_map, length_map, makings_one, map_map}
use Rattle.keri_roles.proofs.core_roles.over_links.take_at.Goals as goal

pub returns-clause-taken : goal.returns-clause-taken
returns-clause-taken g c =
    let left = g.O.Source.Source.left in
    let faults = g.O.Source.Source.faults in
    let seen = source_seen left faults g.O.Verifier.Verifier.says g.O.Verifier.Verifier.inquiries g.O.Verifier.Verifier.faults in
    let of_sink = sink_shown g.O.Door.Sink.Sink.written g.O.Door.Sink.Sink.faults in
    let taken = c.take_links-taken.ensures in
    let sources = c.take_links-taken.result.sources.items in
    let sinks = c.take_links-taken.result.sinks.items in
    let before = g.O.Outside.shown c.args.outside.now in
    let after = g.O.Outside.shown c.door.new.self in
    let made = c.in-Ok.ensures in
    let door = door_shown g.O.Door.Door.left g.O.Door.Door.faults c.take_links-taken.new.door in
    let at : AreTakenAt (before.links c.args.address.now) c.args.count c.take_links-taken.result.failed (map left sources) door = record {
      few = rw (length_map left sources) taken.few;
      enough = rw (length_map left sources) taken.enough;
      taken = rw made.holds at taken.taken;
      cause = rw made.none_yet at taken.cause;
    } in
    record {
      taken = record {
        taken = subst (λ l. AreTakenAt (before.links c.args.address.now) c.args.count c.take_links-taken.result.failed l door) (sym (map_map (λ s. s.left) seen sources)) at;
        sources_unfailed = all_map seen (λ s. s.faults ≡ 0) sources taken.source_none_yet;
        each = rw (length_map seen sources, length_map of_sink sinks) taken.each;
        sinks_unfailed = all_map of_sink (λ s. s.faults ≡ 0) sinks taken.sink_none_yet;
        unwritten = all_map of_sink (λ s. HasNone s.written) sinks taken.unwritten;
      };
      makes = makings_one DoorKind c.args.address.now before after _ (rw c.in-Ok.is at c.door.ensures.makes);
      says = c.door.ensures.makes.verdicts;
    }
