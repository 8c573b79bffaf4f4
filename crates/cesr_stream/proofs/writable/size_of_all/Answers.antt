use Rattle.std.proofs.Common.{◌+◌, ◌++◌, take, drop, length, flat_map, refl, ap, ◌∙◌, arith, length-append}
use Rattle.std.proofs.lemmas.List.{take_all}
use Rattle.lists.proofs.KeriSpecsLemmas.Putting.{texts_at, texts_more}
use Rattle.cesr_stream.proofs.writable.size_of_all.Goals as goal

pub loop-one-init : goal.loop-one-init
loop-one-init g c = record { sized = refl }

pub size-size-requires : goal.size-size-requires
size-size-requires g c =
    let text = g.E.Writable.text in
    let before = flat_map text (take c.loop-one.one-index c.args.all.now) in
    let behind = flat_map text (drop (c.loop-one.one-index + 1) c.args.all.now) in
    let all = ap length (texts_at text c.args.all.now c.loop-one.one-index c.one-item.result c.loop-one-test.true c.one-item.is) in
    omega (arith, c.requires, all, length-append before (text c.one-item.result ++ behind), length-append (text c.one-item.result) behind)

pub overflow_add-size : goal.overflow_add-size
overflow_add-size g c =
    let text = g.E.Writable.text in
    let before = flat_map text (take c.loop-one.one-index c.args.all.now) in
    let behind = flat_map text (drop (c.loop-one.one-index + 1) c.args.all.now) in
    let all = ap length (texts_at text c.args.all.now c.loop-one.one-index c.one-item.result c.loop-one-test.true c.one-item.is) in
    omega (arith, c.requires, all, length-append before (text c.one-item.result ++ behind), length-append (text c.one-item.result) behind, c.loop-one.invariant.sized, c.size-size.ensures)

pub loop-one-preserved : goal.loop-one-preserved
loop-one-preserved g c =
    let text = g.E.Writable.text in
    let before = flat_map text (take c.loop-one.one-index c.args.all.now) in
    let more = ap length (texts_more text c.args.all.now c.loop-one.one-index c.one-item.result c.loop-one-test.true c.one-item.is) in
    record { sized = omega (arith, more, length-append before (text c.one-item.result), c.loop-one.invariant.sized, c.size-size.ensures) }

pub returns : goal.returns
returns g c =
    c.loop-one.invariant.sized
    ∙ ap (λ all. length (flat_map g.E.Writable.text all)) (take_all c.loop-one.one-index c.args.all.now (omega (arith, c.loop-one-test.false)))
