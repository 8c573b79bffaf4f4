use Rattle.std.specs.Prelude.{◌≡◌, ◌≤◌, ◌-◌, length, map, false}
use Rattle.std.specs.Vec.{vec_capacity}
use Rattle.run_status.specs.RunStatus.Readers.{reader_seen}
use Rattle.keri_outside.specs.Shown.{sink_shown}
use Rattle.witness_core.proofs.WitnessRoleLemmas.ComingLinks.{IsComing}
use Rattle.witness_core.proofs.witness_role.link_service.serve_coming.Given as goal

-- Links came so far, and were served. The witness is whole, and the door didn't fail yet.
abbrev pub invariant-loop-alloc : goal.invariant-loop-alloc
invariant-loop-alloc g l = record {
  whole : l.service.witness.broken ≡ false;
  few : length l.kept.readers.items ≤ l.count;
  each : length l.kept.sinks.items ≡ length l.kept.readers.items;
  room : l.count ≤ vec_capacity l.kept.readers;
  sink_room : l.count ≤ vec_capacity l.kept.sinks;
  same_room : vec_capacity l.kept.readers ≡ vec_capacity l.fn.kept.readers;
  unfailed : g.O.Door.Door.faults l.door ≡ g.O.Door.Door.faults l.fn.door;
  key : l.service.witness.key ≡ l.fn.service.witness.key;
  same_limits : l.service.witness.limits ≡ l.fn.service.witness.limits;
  says : g.O.Verifier.Verifier.says l.service.verifier ≡ g.O.Verifier.Verifier.says l.fn.service.verifier;
  gives : g.O.Signer.Signer.gives l.service.signer ≡ g.O.Signer.Signer.gives l.fn.service.signer;
  coming : IsComing g.O.Disk.Disk.shown l.fn.service.witness.key l.fn.service.witness.limits l.fn.limits (g.O.Verifier.Verifier.says l.fn.service.verifier) (g.O.Signer.Signer.gives l.fn.service.signer)
      (g.O.Door.Door.left l.fn.door) (g.O.Door.Door.left l.door) (record {
        left = record { core = l.fn.service.witness.core; list = l.fn.service.witness.shelf.list; broken = l.fn.service.witness.broken; disk = l.fn.service.witness.shelf.disk };
        inquiries = g.O.Verifier.Verifier.inquiries l.fn.service.verifier;
        verifier_faults = g.O.Verifier.Verifier.faults l.fn.service.verifier;
        signings = g.O.Signer.Signer.signings l.fn.service.signer;
        signer_faults = g.O.Signer.Signer.faults l.fn.service.signer;
      })
      (record {
        left = record { core = l.service.witness.core; list = l.service.witness.shelf.list; broken = l.service.witness.broken; disk = l.service.witness.shelf.disk };
        inquiries = g.O.Verifier.Verifier.inquiries l.service.verifier;
        verifier_faults = g.O.Verifier.Verifier.faults l.service.verifier;
        signings = g.O.Signer.Signer.signings l.service.signer;
        signer_faults = g.O.Signer.Signer.faults l.service.signer;
      })
      (map (reader_seen g.O.Source.Source.left g.O.Source.Source.faults g.O.Verifier.Verifier.says g.O.Verifier.Verifier.inquiries g.O.Verifier.Verifier.faults) l.kept.readers.items)
      (map (sink_shown g.O.Door.Sink.Sink.written g.O.Door.Sink.Sink.faults) l.kept.sinks.items);
}

abbrev pub decreases-loop-alloc : goal.decreases-loop-alloc
decreases-loop-alloc g l = l.count - length l.kept.readers.items
