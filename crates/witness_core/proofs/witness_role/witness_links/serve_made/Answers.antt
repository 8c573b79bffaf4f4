use Rattle.std.proofs.Common.{map, refl}
use Rattle.run_status.specs.RunStatus.Readers.{reader_seen, verifier_seen}
use Rattle.run_status.specs.RunRecord.Seen.{door_shown, signer_shown}
use Rattle.witness_core.proofs.witness_role.witness_links.serve_made.Goals as goal

pub returns-clause-serves : goal.returns-clause-serves
returns-clause-serves g c = λ before after.
    let now = c.serve_coming-failed.new in
    let served = c.serve_coming-failed.ensures in
    let end = c.end.ensures in
    record {
      door = door_shown g.O.Door.Door.left g.O.Door.Door.faults now.door;
      verifier = verifier_seen g.O.Source.Source.left g.O.Source.Source.faults g.O.Verifier.Verifier.says g.O.Verifier.Verifier.inquiries g.O.Verifier.Verifier.faults now.service.verifier;
      signer = signer_shown g.O.Signer.Signer.gives g.O.Signer.Signer.signings g.O.Signer.Signer.faults now.service.signer;
      each = map (reader_seen g.O.Source.Source.left g.O.Source.Source.faults g.O.Verifier.Verifier.says g.O.Verifier.Verifier.inquiries g.O.Verifier.Verifier.faults) now.kept.readers.items;
      new = record { core = now.service.witness.core; list = now.service.witness.shelf.list; broken = now.service.witness.broken; disk = now.service.witness.shelf.disk };
      failed = c.serve_coming-failed.result;
      door_is = rw end.door refl;
      signer_is = rw end.signer refl;
      coming = rw end.sinks (rw c.from.ensures at served.serves);
      says_is = served.says;
      gives_is = served.gives;
      ends = rw c.with_verifier-readers.ensures at end.ends before after;
    }
