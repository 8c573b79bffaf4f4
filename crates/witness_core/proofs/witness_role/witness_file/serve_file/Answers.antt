use Rattle.std.proofs.Common.{◌≡◌, [], ◌∷◌, false, true, Some, None, refl, ◌∙◌, ap}
use Rattle.run_status.specs.RunOutside.Makings.{AreMakings}
use Rattle.run_status.specs.RunOutside.Shown.{making}
use Rattle.run_status.specs.declared.run_outside.making.MakingKind.TheVariants.{Source, Verifier, Signer}
use Rattle.run_status.specs.declared.run_status.close.Close.TheVariants.{ReadFault, VerifierFault, SignerFault}
use Rattle.run_status.specs.RunStatus.Readers.{source_seen, verifier_seen}
use Rattle.keri_outside.specs.Shown.{sink_shown}
use Rattle.run_status.proofs.RunRecordLemmas.Makings.{one_failed, one_made, then_made}
use Rattle.witness_core.proofs.WitnessRoleLemmas.ServedFile.{serving_all}
use Rattle.witness_core.proofs.witness_role.witness_file.serve_file.Goals as goal

pub returns-in_default-clause-serves : goal.returns-in_default-clause-serves
returns-in_default-clause-serves g c =
    let made = c.in_default.ensures in
    let seen = c.unserved-reader.ensures in
    let none = c.none.ensures in
    let end = c.end_one.ensures in
    record {
      reader = record { source = None; verifier = None; refused = []; seen = []; close = ReadFault };
      makes = (refl, rw end.signer refl, one_failed Source c.args.name.now _ _ _ made.makes);
      new = record { core = c.args.witness.core; list = c.args.witness.shelf.list; broken = c.args.witness.broken; disk = c.args.witness.shelf.disk };
      serves = record { close = refl; none_refused = refl; none_seen = refl; unread = tt; unasked = tt; same = refl; same_sink = rw made.same_sink refl };
      no_links = record { no_door = rw (end.door, none.door) refl; no_sinks = rw (end.sinks, none.sinks) refl };
      ends = rw (none.failed, seen.source, seen.verifier, seen.none_refused, seen.none_seen, seen.close) at end.ends c.args.outside.now c.source.new.self;
    }

pub returns-in_default-verifier-clause-serves : goal.returns-in_default-verifier-clause-serves
returns-in_default-verifier-clause-serves g c =
    let first = c.in-Ok.ensures in
    let made = c.in_default-verifier.ensures in
    let seen = c.unserved-reader-in_default-verifier.ensures in
    let none = c.none-in_default-verifier.ensures in
    let end = c.end_one-in_default-verifier.ensures in
    let source = source_seen g.O.Source.Source.left g.O.Source.Source.faults g.O.Verifier.Verifier.says g.O.Verifier.Verifier.inquiries g.O.Verifier.Verifier.faults c.in-Ok.source in
    record {
      reader = record { source = Some source; verifier = None; refused = []; seen = []; close = VerifierFault };
      makes = (
        rw end.signer refl,
        then_made (making Source c.args.name.now false ∷ []) Verifier c.args.helper.now true _ _ _ refl refl refl
            (one_made Source c.args.name.now _ _ c.in-Ok.source first.makes) (one_failed Verifier c.args.helper.now _ _ _ made.makes),
      );
      new = record { core = c.args.witness.core; list = c.args.witness.shelf.list; broken = c.args.witness.broken; disk = c.args.witness.shelf.disk };
      serves = record { close = refl; none_refused = refl; none_seen = refl; unread = rw (first.holds, first.none_yet) refl; unasked = tt; same = refl; same_sink = rw (made.same_sink, first.same_sink) refl };
      no_links = record { no_door = rw (end.door, none.door) refl; no_sinks = rw (end.sinks, none.sinks) refl };
      ends = rw (none.failed, seen.source, seen.verifier, seen.none_refused, seen.none_seen, seen.close) at end.ends c.args.outside.now c.verifier.new.self;
    }

pub returns-in_default-signer-clause-serves : goal.returns-in_default-signer-clause-serves
returns-in_default-signer-clause-serves g c =
    let first = c.in-Ok.ensures in
    let next = c.in-Ok-verifier.ensures in
    let made = c.in_default-signer.ensures in
    let seen = c.unserved-reader-in_default-signer.ensures in
    let none = c.none-in_default-signer.ensures in
    let end = c.end_one-in_default-signer.ensures in
    let source = source_seen g.O.Source.Source.left g.O.Source.Source.faults g.O.Verifier.Verifier.says g.O.Verifier.Verifier.inquiries g.O.Verifier.Verifier.faults c.in-Ok.source in
    let verifier = verifier_seen g.O.Source.Source.left g.O.Source.Source.faults g.O.Verifier.Verifier.says g.O.Verifier.Verifier.inquiries g.O.Verifier.Verifier.faults c.in-Ok-verifier.verifier in
    record {
      reader = record { source = Some source; verifier = Some verifier; refused = []; seen = []; close = SignerFault };
      makes = rw end.signer (then_made (making Source c.args.name.now false ∷ making Verifier c.args.helper.now false ∷ []) Signer c.args.helper.now true _ _ _ refl refl refl
          (then_made (making Source c.args.name.now false ∷ []) Verifier c.args.helper.now false _ _ _ refl refl refl
          (one_made Source c.args.name.now _ _ c.in-Ok.source first.makes) (one_made Verifier c.args.helper.now _ _ c.in-Ok-verifier.verifier next.makes))
          (one_failed Signer c.args.helper.now _ _ _ made.makes));
      new = record { core = c.args.witness.core; list = c.args.witness.shelf.list; broken = c.args.witness.broken; disk = c.args.witness.shelf.disk };
      serves = rw end.signer (record { close = refl; none_refused = refl; none_seen = refl; unread = rw (first.holds, first.none_yet) refl; unasked = (next.unasked, next.none_yet); same = refl; same_sink = rw (made.same_sink, next.same_sink, first.same_sink) refl });
      no_links = record { no_door = rw (end.door, none.door) refl; no_sinks = rw (end.sinks, none.sinks) refl };
      ends = rw (none.failed, seen.source, seen.verifier, seen.none_refused, seen.none_seen, seen.close) at end.ends c.args.outside.now c.signer.new.self;
    }

pub returns-clause-serves : goal.returns-clause-serves
returns-clause-serves g c =
    let first = c.in-Ok.ensures in
    let next = c.in-Ok-verifier.ensures in
    let last = c.in-Ok-signer.ensures in
    let before = g.O.Outside.shown c.args.outside.now in
    let says : g.O.Verifier.Verifier.says c.in-Ok-verifier.verifier ≡ before.says c.args.helper.now = next.says ∙ ap (λ says. says c.args.helper.now) first.makes.verdicts in
    let gives : g.O.Signer.Signer.gives c.in-Ok-signer.signer ≡ before.gives c.args.helper.now = last.gives ∙ ap (λ gives. gives c.args.helper.now) (next.makes.signatures ∙ first.makes.signatures) in
    let makes : AreMakings (making Source c.args.name.now false ∷ making Verifier c.args.helper.now false ∷ making Signer c.args.helper.now false ∷ []) before (g.O.Outside.shown c.serve_made.new.outside) =
    rw c.serve_made.ensures.shown (then_made (making Source c.args.name.now false ∷ making Verifier c.args.helper.now false ∷ []) Signer c.args.helper.now false _ _ _ refl refl refl
    (then_made (making Source c.args.name.now false ∷ []) Verifier c.args.helper.now false _ _ _ refl refl refl
    (one_made Source c.args.name.now _ _ c.in-Ok.source first.makes) (one_made Verifier c.args.helper.now _ _ c.in-Ok-verifier.verifier next.makes))
    (one_made Signer c.args.helper.now _ _ c.in-Ok-signer.signer last.makes)) in
    serving_all (rw c.new-service.ensures at c.serve_made.ensures.serves) c.args.helper.now c.args.name.now (g.O.Verifier.Verifier.inquiries c.in-Ok-verifier.verifier) (g.O.Signer.Signer.signings c.in-Ok-signer.signer) before (sink_shown g.O.Sink.Sink.written g.O.Sink.Sink.faults (g.O.Outside.sink c.args.outside.now))
    (last.makes.limits ∙ next.makes.limits ∙ first.makes.limits) (rw (last.same_sink, next.same_sink, first.same_sink) refl) (rw (first.holds, first.none_yet) refl)
    (λ i. record { says = says i; inquiries = g.O.Verifier.Verifier.inquiries c.in-Ok-verifier.verifier; faults = next.none_yet i }) next.unasked
    (λ i. record { gives = gives i; signings = g.O.Signer.Signer.signings c.in-Ok-signer.signer; faults = last.none_yet i }) last.unasked makes
