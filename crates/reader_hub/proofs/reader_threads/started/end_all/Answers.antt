use Rattle.std.proofs.Common.{rules, ◌≡◌, [], ◌∷◌, ◌++◌, subst, sym, arith, ap, ◌∙◌, length}
use Rattle.std.proofs.lemmas.List.{map-append, nil_from_length}
use Rattle.std.specs.Vec.Iter.{into_iter_items}
use Rattle.turn_lock.specs.Locks.{limit_of}
use Rattle.reader_hub.specs.ReaderThreads.Starts.{Finished}
use Rattle.reader_hub.proofs.ReaderThreadsLemmas.Threads.{finished_all, finished_none, finished_on}
use Rattle.reader_hub.proofs.reader_threads.started.end_all.Goals as goal

pub loop-one-init : goal.loop-one-init
loop-one-init g c =
    let left = g.S.Source.left in
    let faults = g.S.Source.faults in
    let says = g.V.Verifier.says in
    let inquiries = g.V.Verifier.inquiries in
    let failed = g.V.Verifier.faults in
    let limit = limit_of c.args.hub.now.turn in
    let passes = c.requires.passes in
    let readers = c.requires.readers in
    let first = c.push_reserved.ensures in
    let gives = ap length c.into_iter-one-iterator.ensures.into_iter_gives.0 in
    let count = c.args.started.ok.0 in (
      search rules,
      search rules,
      (let none = ap length passes.0 in let few = c.args.room.passes.ok.0 in let room = passes.1 in omega (arith, gives, count, none, few, room)),
      (let none = ap length readers.0 in let few = c.args.room.readers.ok.0 in let room = readers.1 in let len = first.len in let capacity = first.capacity in omega (arith, gives, count, none, few, room, len, capacity)),
      (
        [],
        passes.0,
        first.items ∙ ap (λ l. l ++ c.args.first ∷ []) readers.0,
        λ jobs each. subst (λ l. Finished left faults says inquiries failed c.args.limits limit jobs l []) (sym c.into_iter-one-iterator.ensures.into_iter_gives.0)
            (finished_none left faults says inquiries failed c.args.limits limit jobs _ each),
      ),
    )

pub loop-one-preserved : goal.loop-one-preserved
loop-one-preserved g c =
    let left = g.S.Source.left in
    let faults = g.S.Source.faults in
    let says = g.V.Verifier.says in
    let inquiries = g.V.Verifier.inquiries in
    let failed = g.V.Verifier.faults in
    let limit = limit_of c.args.hub.now.turn in
    let inv = c.loop-one.invariant in
    let items = c.in-Some.ensures.steps.0 in
    let count = ap length items in
    let ended = inv.4.0 in
    let end = c.end-pass.result in
    let pass = c.push_reserved-in-loop-one.ensures in
    let reader = c.push_reserved-in-loop-one-2.ensures in (
      search rules,
      search rules,
      (let room = inv.2 in let len = pass.len in let capacity = pass.capacity in omega (arith, count, room, len, capacity)),
      (let room = inv.3 in let len = reader.len in let capacity = reader.capacity in omega (arith, count, room, len, capacity)),
      (
        ended ++ end ∷ [],
        pass.items ∙ (ap (λ l. l ++ end.pass ∷ []) inv.4.1 ∙ sym (map-append (λ e. e.pass) ended (end ∷ []))),
        reader.items ∙ (ap (λ l. l ++ end.reader ∷ []) inv.4.2 ∙ ap (λ l. c.args.first ∷ l) (sym (map-append (λ e. e.reader) ended (end ∷ [])))),
        λ jobs each. finished_on left faults says inquiries failed c.args.limits limit jobs _ _ _ _
            (subst (λ l. Finished left faults says inquiries failed c.args.limits limit jobs l ended) items (inv.4.3 jobs each)) c.end-pass.ensures,
      ),
    )

pub returns : goal.returns
returns g c =
    let left = g.S.Source.left in
    let faults = g.S.Source.faults in
    let says = g.V.Verifier.says in
    let inquiries = g.V.Verifier.inquiries in
    let failed = g.V.Verifier.faults in
    let limit = limit_of c.args.hub.now.turn in
    let inv = c.loop-one.invariant in
    let none : into_iter_items c.loop-one.one-iterator ≡ [] = (let zero = c.in-None.ensures.steps.0 in let ok = c.loop-one.one-iterator.rest.ok.0 in nil_from_length (into_iter_items c.loop-one.one-iterator) (omega (arith, zero, ok))) in
    record {
      ended = inv.4.0;
      passes_are = inv.4.1;
      readers_are = inv.4.2;
      each = λ jobs each. finished_all left faults says inquiries failed c.args.limits limit jobs _
          (subst (λ l. Finished left faults says inquiries failed c.args.limits limit jobs l inv.4.0) none (inv.4.3 jobs each));
    }
