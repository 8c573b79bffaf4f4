use Rattle.std.proofs.Common.{◌≡◌, ◌≤◌, ◌∷◌, ◌++◌, [], length, map, ap, sym, refl, subst, ◌∙◌, inl, inr, true, false, arith, rules}
use Rattle.std.proofs.lemmas.List.{length-map, map-append}
use Rattle.keri_outside.specs.declared.failed.Failed.{Failed}
use Rattle.run_status.specs.RunStatus.Readers.{reader_seen}
use Rattle.keri_outside.specs.Shown.{sink_shown}
use Rattle.run_status.specs.RunRecord.Seen.{door_shown}
use Rattle.keri_outside.specs.Doors.{NoneLeft}
use Rattle.witness_core.proofs.WitnessRoleLemmas.ComingLinks.{comes_last, comes_to, coming_more, coming_none}
use Rattle.witness_core.proofs.witness_role.link_service.serve_coming.Goals as goal

pub loop-alloc-init : goal.loop-alloc-init
loop-alloc-init g c = record {
  whole = c.requires.whole;
  few = search rules;
  each = rw (c.requires.no_readers, c.requires.no_sinks) refl;
  room = c.requires.readers;
  sink_room = c.requires.sinks;
  same_room = refl;
  unfailed = refl;
  key = refl;
  same_limits = refl;
  says = refl;
  gives = refl;
  coming = rw (c.requires.no_readers, c.requires.no_sinks) (coming_none g.O.Disk.Disk.shown c.args.service.now.witness.key c.args.service.now.witness.limits c.args.limits
      (g.O.Verifier.Verifier.says c.args.service.now.verifier) (g.O.Signer.Signer.gives c.args.service.now.signer) (g.O.Door.Door.left c.args.door.now) _);
}

pub returns-then-not-asks_next-clause-serves : goal.returns-then-not-asks_next-clause-serves
returns-then-not-asks_next-clause-serves g c =
    let inv = c.loop-alloc.invariant in
    let before = c.loop-alloc.kept in
    let came = c.in-Ok-Some.ensures in
    let result = c.serve_one-reader.result in
    let left = g.O.Source.Source.left in
    let seen = reader_seen left g.O.Source.Source.faults g.O.Verifier.Verifier.says g.O.Verifier.Verifier.inquiries g.O.Verifier.Verifier.faults in
    let sink = sink_shown g.O.Door.Sink.Sink.written g.O.Door.Sink.Sink.faults in
    let readers : map seen c.push_reserved.new.self.items ≡ map seen before.readers.items ++ seen result.reader ∷ []
    = ap (map seen) c.push_reserved.ensures.items ∙ map-append seen before.readers.items (result.reader ∷ []) in
    let sinks : map sink c.push_reserved-in-Ok-Some.new.self.items ≡ map sink before.sinks.items ++ sink result.sink ∷ []
    = ap (map sink) c.push_reserved-in-Ok-Some.ensures.items ∙ map-append sink before.sinks.items (result.sink ∷ []) in
    let few : length c.push_reserved.new.self.items ≤ c.args.count = search rules in
    rw (sym readers, sym sinks) at (comes_last g.O.Disk.Disk.shown c.args.service.now.witness.key c.args.service.now.witness.limits c.args.limits (g.O.Verifier.Verifier.says c.args.service.now.verifier) (g.O.Signer.Signer.gives c.args.service.now.signer)
    _ _ _ _ _ _ inv.coming Failed (λ (caller : _). left caller.source) _ c.in-Ok-Some.caller (rw c.in-Ok-Some.field-0-is at came.comes) _ (seen result.reader) (sink result.sink)
    (rw (inv.key, inv.same_limits, inv.says, inv.gives) at c.serve_one-reader.ensures.serves) c.args.count (door_shown g.O.Door.Door.left g.O.Door.Door.faults c.args.door.now)
    (door_shown g.O.Door.Door.left g.O.Door.Door.faults c.next.new.self) refl refl
    (subst (λ xs. length xs ≤ c.args.count) readers (subst (λ n. n ≤ c.args.count) (sym (length-map c.push_reserved.new.self.items seen)) few)) (search rules) (search rules))

pub loop-alloc-preserved : goal.loop-alloc-preserved
loop-alloc-preserved g c =
    let inv = c.loop-alloc.invariant in
    let before = c.loop-alloc.kept in
    let came = c.in-Ok-Some.ensures in
    let served = c.serve_one-reader.ensures in
    let result = c.serve_one-reader.result in
    let left = g.O.Source.Source.left in
    let seen = reader_seen left g.O.Source.Source.faults g.O.Verifier.Verifier.says g.O.Verifier.Verifier.inquiries g.O.Verifier.Verifier.faults in
    let sink = sink_shown g.O.Door.Sink.Sink.written g.O.Door.Sink.Sink.faults in
    let readers : map seen c.push_reserved.new.self.items ≡ map seen before.readers.items ++ seen result.reader ∷ []
    = ap (map seen) c.push_reserved.ensures.items ∙ map-append seen before.readers.items (result.reader ∷ []) in
    let sinks : map sink c.push_reserved-in-Ok-Some.new.self.items ≡ map sink before.sinks.items ++ sink result.sink ∷ []
    = ap (map sink) c.push_reserved-in-Ok-Some.ensures.items ∙ map-append sink before.sinks.items (result.sink ∷ []) in
    record {
      whole = served.whole (search rules);
      few = search rules;
      each = search rules;
      room = search rules;
      sink_room = search rules;
      same_room = search rules;
      unfailed = search rules;
      key = served.key ∙ inv.key;
      same_limits = served.limits ∙ inv.same_limits;
      says = served.says ∙ inv.says;
      gives = served.gives ∙ inv.gives;
      coming = rw (readers, sinks) (coming_more g.O.Disk.Disk.shown c.args.service.now.witness.key c.args.service.now.witness.limits c.args.limits (g.O.Verifier.Verifier.says c.args.service.now.verifier) (g.O.Signer.Signer.gives c.args.service.now.signer)
          _ _ _ _ _ _ inv.coming Failed (λ (caller : _). left caller.source) _ c.in-Ok-Some.caller (rw c.in-Ok-Some.field-0-is at came.comes) _ (seen result.reader) (sink result.sink)
          (rw (inv.key, inv.same_limits, inv.says, inv.gives) at served.serves) (search rules));
    }

pub returns-in-Ok-None-clause-serves : goal.returns-in-Ok-None-clause-serves
returns-in-Ok-None-clause-serves g c =
    let inv = c.loop-alloc.invariant in
    let seen = reader_seen g.O.Source.Source.left g.O.Source.Source.faults g.O.Verifier.Verifier.says g.O.Verifier.Verifier.inquiries g.O.Verifier.Verifier.faults in
    let before = c.loop-alloc.kept.readers.items in
    let few : length (map seen before) ≤ c.args.count = subst (λ n. n ≤ c.args.count) (sym (length-map before seen)) inv.few in
    let came : NoneLeft (g.O.Door.Door.left c.loop-alloc.door) × (g.O.Door.Door.left c.next.new.self ≡ g.O.Door.Door.left c.loop-alloc.door) = rw c.in-Ok-None.field-0-is at c.in-Ok-None.ensures.comes in
    comes_to g.O.Disk.Disk.shown c.args.service.now.witness.key c.args.service.now.witness.limits c.args.limits (g.O.Verifier.Verifier.says c.args.service.now.verifier) (g.O.Signer.Signer.gives c.args.service.now.signer)
    _ _ _ _ _ _ inv.coming c.args.count false (door_shown g.O.Door.Door.left g.O.Door.Door.faults c.args.door.now) (door_shown g.O.Door.Door.left g.O.Door.Door.faults c.next.new.self) refl came.1 few
    (inr (inr came.0)) (search rules)

pub returns-in-Err-clause-serves : goal.returns-in-Err-clause-serves
returns-in-Err-clause-serves g c =
    let inv = c.loop-alloc.invariant in
    let seen = reader_seen g.O.Source.Source.left g.O.Source.Source.faults g.O.Verifier.Verifier.says g.O.Verifier.Verifier.inquiries g.O.Verifier.Verifier.faults in
    let before = c.loop-alloc.kept.readers.items in
    let few : length (map seen before) ≤ c.args.count = subst (λ n. n ≤ c.args.count) (sym (length-map before seen)) inv.few in
    comes_to g.O.Disk.Disk.shown c.args.service.now.witness.key c.args.service.now.witness.limits c.args.limits (g.O.Verifier.Verifier.says c.args.service.now.verifier) (g.O.Signer.Signer.gives c.args.service.now.signer)
    _ _ _ _ _ _ inv.coming c.args.count true (door_shown g.O.Door.Door.left g.O.Door.Door.faults c.args.door.now) (door_shown g.O.Door.Door.left g.O.Door.Door.faults c.next.new.self) refl c.in-Err.ensures.comes few
    (inr (inl refl)) (search rules)

pub returns-clause-serves : goal.returns-clause-serves
returns-clause-serves g c =
    let inv = c.loop-alloc.invariant in
    let seen = reader_seen g.O.Source.Source.left g.O.Source.Source.faults g.O.Verifier.Verifier.says g.O.Verifier.Verifier.inquiries g.O.Verifier.Verifier.faults in
    let before = c.loop-alloc.kept.readers.items in
    let few : length (map seen before) ≤ c.args.count = subst (λ n. n ≤ c.args.count) (sym (length-map before seen)) inv.few in
    let many : length (map seen before) ≡ c.args.count = length-map before seen ∙ omega (arith, inv.few, c.len.ensures, c.loop-alloc-test.false) in
    comes_to g.O.Disk.Disk.shown c.args.service.now.witness.key c.args.service.now.witness.limits c.args.limits (g.O.Verifier.Verifier.says c.args.service.now.verifier) (g.O.Signer.Signer.gives c.args.service.now.signer)
    _ _ _ _ _ _ inv.coming c.args.count false (door_shown g.O.Door.Door.left g.O.Door.Door.faults c.args.door.now) (door_shown g.O.Door.Door.left g.O.Door.Door.faults c.loop-alloc.door) refl refl few
    (inl many) inv.unfailed
