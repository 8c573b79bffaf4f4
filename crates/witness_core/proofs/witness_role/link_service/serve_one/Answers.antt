use Rattle.std.proofs.Common.{◌≡◌, refl}
use Rattle.keri_outside.specs.Shown.{sink_shown, source_shown}
use Rattle.witness_core.proofs.WitnessRoleLemmas.ComingLinks.{same_gives, same_key, same_limits, same_says, whole_kept}
use Rattle.witness_core.proofs.witness_role.link_service.serve_one.Goals as goal

pub returns : goal.returns
returns g c =
    let caller = c.args.caller in
    let old = c.args.service.now in
    let it = c.serve_link-refused.ensures in
    let now = c.serve_link-refused.new in
    let end = c.serve_link-refused.result in
    let key : now.service.witness.key ≡ old.witness.key = same_key _ _ it.serves in
    let limits : now.service.witness.limits ≡ old.witness.limits = same_limits _ _ it.serves in
    let says : g.O.Verifier.Verifier.says now.service.verifier ≡ g.O.Verifier.Verifier.says old.verifier = same_says _ _ it.serves in
    let gives : g.O.Signer.Signer.gives now.service.signer ≡ g.O.Signer.Signer.gives old.signer = same_gives _ _ it.serves in
    record {
      serves = record {
        link = record {
          source_old = source_shown g.O.Source.Source.left g.O.Source.Source.faults caller.source;
          source = source_shown g.O.Source.Source.left g.O.Source.Source.faults now.source;
          sink_old = sink_shown g.O.Door.Sink.Sink.written g.O.Door.Sink.Sink.faults caller.sink;
          sink = sink_shown g.O.Door.Sink.Sink.written g.O.Door.Sink.Sink.faults now.sink;
          refused = end.refused.items;
          seen = end.seen.items;
          close = end.close;
        };
        one = record {
          fresh = record { source_unfailed = c.requires.source_unfailed; sink_unfailed = c.requires.sink_unfailed; unwritten = c.requires.unwritten };
          serves = rw (key, limits, says, gives) at it;
        };
        held_is = refl;
        reader_is = rw c.from_vec.ensures refl;
        sink_is = refl;
      };
      whole = whole_kept _ _ _ _ _ _ it.serves end.close it.closes;
      key = key;
      limits = limits;
      says = says;
      gives = gives;
    }
