use Rattle.std.proofs.Common.{[], ◌∷◌, true, false, Some, None, refl, ◌∙◌, ap}
use Rattle.run_status.specs.RunOutside.Makings.{AreMakings}
use Rattle.run_status.specs.RunOutside.Shown.{making}
use Rattle.run_status.specs.declared.run_outside.making.MakingKind.TheVariants.{Door, Verifier, Signer}
use Rattle.run_status.specs.declared.run_status.close.Close.TheVariants.{End, VerifierFault, SignerFault}
use Rattle.run_status.specs.RunStatus.Readers.{verifier_seen}
use Rattle.witness_core.specs.WitnessRole.ServedLinks.{idle_reader}
use Rattle.run_status.proofs.RunRecordLemmas.Makings.{one_failed, one_made, then_made}
use Rattle.witness_core.proofs.WitnessRoleLemmas.ServedLinks.{serving_links}
use Rattle.witness_core.proofs.witness_role.witness_links.serve_links.Goals as goal

pub returns-in_default-clause-serves : goal.returns-in_default-clause-serves
returns-in_default-clause-serves g c =
    let made = c.in_default.ensures in
    let seen = c.unserved-reader.ensures in
    let none = c.unasked.ensures in
    let end = c.end_one.ensures in
    record {
      verifier = None;
      makes = rw (end.door, none.door, end.signer) (refl, refl, one_failed Door c.args.links.address.now _ _ _ made.makes);
      readers = idle_reader None End ∷ [];
      new = record { core = c.args.witness.core; list = c.args.witness.shelf.list; broken = c.args.witness.broken; disk = c.args.witness.shelf.disk };
      failed = true;
      serves = rw (end.door, none.door) (refl, record { one = refl; unasked = tt; none_inquired = tt; no_sinks = rw (end.sinks, none.sinks, c.requires.no_sinks) refl; same = refl });
      same_sink = rw made.same_sink refl;
      ends = rw (none.failed, seen.source, seen.verifier, seen.none_refused, seen.none_seen, seen.close) at end.ends c.args.outside.now c.door.new.self;
    }

pub returns-in_default-verifier-clause-serves : goal.returns-in_default-verifier-clause-serves
returns-in_default-verifier-clause-serves g c =
    let first = c.in-Ok.ensures in
    let made = c.in_default-verifier.ensures in
    let seen = c.unserved-reader-in_default-verifier.ensures in
    let none = c.unasked-in_default-verifier.ensures in
    let end = c.end_one-in_default-verifier.ensures in
    record {
      verifier = None;
      makes = rw (end.door, none.door, end.signer) (
        refl,
        then_made (making Door c.args.links.address.now false ∷ []) Verifier c.args.helper.now true _ _ _ refl refl refl
            (one_made Door c.args.links.address.now _ _ c.in-Ok.door first.makes) (one_failed Verifier c.args.helper.now _ _ _ made.makes),
      );
      readers = idle_reader None VerifierFault ∷ [];
      new = record { core = c.args.witness.core; list = c.args.witness.shelf.list; broken = c.args.witness.broken; disk = c.args.witness.shelf.disk };
      failed = false;
      serves = rw (end.door, none.door) (refl, record { one = refl; unasked = rw (first.holds, first.none_yet) refl; none_inquired = tt; no_sinks = rw (end.sinks, none.sinks, c.requires.no_sinks) refl; same = refl });
      same_sink = rw (made.same_sink, first.same_sink) refl;
      ends = rw (none.failed, seen.source, seen.verifier, seen.none_refused, seen.none_seen, seen.close) at end.ends c.args.outside.now c.verifier.new.self;
    }

pub returns-in_default-signer-clause-serves : goal.returns-in_default-signer-clause-serves
returns-in_default-signer-clause-serves g c =
    let first = c.in-Ok.ensures in
    let next = c.in-Ok-verifier.ensures in
    let made = c.in_default-signer.ensures in
    let seen = c.unserved-reader-in_default-signer.ensures in
    let none = c.unasked-in_default-signer.ensures in
    let end = c.end_one-in_default-signer.ensures in
    let verifier = verifier_seen g.O.Source.Source.left g.O.Source.Source.faults g.O.Verifier.Verifier.says g.O.Verifier.Verifier.inquiries g.O.Verifier.Verifier.faults c.in-Ok-verifier.verifier in
    record {
      verifier = Some verifier;
      makes = rw (end.door, none.door, end.signer) (then_made (making Door c.args.links.address.now false ∷ making Verifier c.args.helper.now false ∷ []) Signer c.args.helper.now true _ _ _ refl refl refl
          (then_made (making Door c.args.links.address.now false ∷ []) Verifier c.args.helper.now false _ _ _ refl refl refl
          (one_made Door c.args.links.address.now _ _ c.in-Ok.door first.makes) (one_made Verifier c.args.helper.now _ _ c.in-Ok-verifier.verifier next.makes))
          (one_failed Signer c.args.helper.now _ _ _ made.makes));
      readers = idle_reader (Some verifier) SignerFault ∷ [];
      new = record { core = c.args.witness.core; list = c.args.witness.shelf.list; broken = c.args.witness.broken; disk = c.args.witness.shelf.disk };
      failed = false;
      serves = rw (end.door, none.door, end.signer) (refl, record { one = refl; unasked = rw (first.holds, first.none_yet) refl; none_inquired = (next.unasked, next.none_yet); no_sinks = rw (end.sinks, none.sinks, c.requires.no_sinks) refl; same = refl });
      same_sink = rw (made.same_sink, next.same_sink, first.same_sink) refl;
      ends = rw (none.failed, seen.source, seen.verifier, seen.none_refused, seen.none_seen, seen.close) at end.ends c.args.outside.now c.signer.new.self;
    }

pub returns-clause-serves : goal.returns-clause-serves
returns-clause-serves g c =
    let first = c.in-Ok.ensures in
    let next = c.in-Ok-verifier.ensures in
    let last = c.in-Ok-signer.ensures in
    let before = g.O.Outside.shown c.args.outside.now in
    let after = c.signer.new.self in
    let makes : AreMakings (making Door c.args.links.address.now false ∷ making Verifier c.args.helper.now false ∷ making Signer c.args.helper.now false ∷ []) before (g.O.Outside.shown after) =
    then_made (making Door c.args.links.address.now false ∷ making Verifier c.args.helper.now false ∷ []) Signer c.args.helper.now false _ _ _ refl refl refl
    (then_made (making Door c.args.links.address.now false ∷ []) Verifier c.args.helper.now false _ _ _ refl refl refl
    (one_made Door c.args.links.address.now _ _ c.in-Ok.door first.makes) (one_made Verifier c.args.helper.now _ _ c.in-Ok-verifier.verifier next.makes))
    (one_made Signer c.args.helper.now _ _ c.in-Ok-signer.signer last.makes) in
    serving_links (rw c.new-service.ensures at c.serve_made.ensures.serves c.args.outside.now after) c.args.helper.now c.args.links.address.now
    (g.O.Verifier.Verifier.inquiries c.in-Ok-verifier.verifier) (g.O.Signer.Signer.signings c.in-Ok-signer.signer)
    (record { core = c.args.witness.core; list = c.args.witness.shelf.list; broken = c.args.witness.broken; disk = c.args.witness.shelf.disk })
    (c.limits-limits.ensures ∙ (last.makes.limits ∙ (next.makes.limits ∙ first.makes.limits)))
    (next.says ∙ ap (λ says. says c.args.helper.now) first.makes.verdicts) (last.gives ∙ ap (λ gives. gives c.args.helper.now) (next.makes.signatures ∙ first.makes.signatures))
    (rw (first.holds, first.none_yet) refl) (rw (next.none_yet, last.none_yet) refl) next.unasked last.unasked (rw (last.same_sink, next.same_sink, first.same_sink) refl) makes
