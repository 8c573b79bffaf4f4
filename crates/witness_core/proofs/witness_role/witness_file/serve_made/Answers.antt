use Rattle.std.proofs.Common.{◌≡◌, Some, refl, ap}
use Rattle.run_status.specs.RunStatus.Readers.{source_seen, verifier_seen}
use Rattle.witness_core.specs.WitnessLink.Links.{Terms}
use Rattle.run_status.specs.RunRecord.Seen.{signer_shown}
use Rattle.witness_core.proofs.witness_role.witness_file.serve_made.Goals as goal

pub returns-clause-serves : goal.returns-clause-serves
returns-clause-serves g c =
    let now = c.serve-refused.new in
    let it = c.serve-refused.ensures.serves in
    let key : now.service.witness.key ≡ c.args.service.witness.key = ap (λ (t : Terms). t.key) it.serves.same_terms in
    let limits : now.service.witness.limits ≡ c.args.service.witness.limits = ap (λ (t : Terms). t.limits) it.serves.same_terms in
    let source = source_seen g.O.Source.Source.left g.O.Source.Source.faults g.O.Verifier.Verifier.says g.O.Verifier.Verifier.inquiries g.O.Verifier.Verifier.faults now.source in
    let verifier = verifier_seen g.O.Source.Source.left g.O.Source.Source.faults g.O.Verifier.Verifier.says g.O.Verifier.Verifier.inquiries g.O.Verifier.Verifier.faults now.service.verifier in
    record {
      source = source;
      verifier = verifier;
      signer = signer_shown g.O.Signer.Signer.gives g.O.Signer.Signer.signings g.O.Signer.Signer.faults now.service.signer;
      reader = record { source = Some source; verifier = Some verifier; refused = c.serve-refused.result.refused.items; seen = c.serve-refused.result.seen.items; close = c.serve-refused.result.close };
      new = record { core = now.service.witness.core; list = now.service.witness.shelf.list; broken = now.service.witness.broken; disk = now.service.witness.shelf.disk };
      source_is = refl;
      verifier_is = refl;
      signer_is = rw c.end_one.ensures.signer refl;
      serves = rw (key, limits) at it;
      no_links = record { no_door = rw (c.end_one.ensures.door, c.none-links.ensures.door) refl; no_sinks = rw (c.end_one.ensures.sinks, c.none-links.ensures.sinks) refl };
      ends = rw (c.none-links.ensures.failed, c.from_vec.ensures) at c.end_one.ensures.ends c.args.outside.now now.outside;
    }
