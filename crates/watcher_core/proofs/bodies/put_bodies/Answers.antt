use Rattle.std.proofs.Common.{get_or, take, sym, subst}
use Rattle.std.specs.List.{cons_option}
use Rattle.std.specs.Prelude.{[], slice_get}
use Rattle.std.proofs.lemmas.List.{take_all}
use Rattle.journal.specs.Journal.Journals.{chosen}
use Rattle.watcher_core.specs.Named.{PutsBodies}
use Rattle.watcher_core.proofs.Texts.{chosen_more, puts_at, puts_more, puts_none}
use Rattle.watcher_core.proofs.bodies.put_bodies.Goals as goal

pub loop-number-init : goal.loop-number-init
unfolding chosen
loop-number-init c = puts_none c.args.core.now c.args.text.now.bytes.items

pub loop-number-preserved : goal.loop-number-preserved
loop-number-preserved c =
    let core = c.args.core.now in
    let ns = c.args.numbers.now in
    let k = c.loop-number.number-index in
    let old = c.args.text.now.bytes.items in
    let mid = c.loop-number.text.bytes.items in
    let new = c.put_body.new.text.bytes.items in
    let there = slice_get core.held (get_or ns k 0) in
    subst (λ bs. PutsBodies core bs old new) (sym (chosen_more core.held ns k 0 c.loop-number-test.true))
    (puts_more core (chosen core.held (take k ns)) (cons_option there []) old mid new c.loop-number.invariant (puts_at core there mid new c.in_ok-put_body.ensures))

pub returns : goal.returns
returns c =
    subst (λ ns. PutsBodies c.args.core.now (chosen c.args.core.now.held ns) c.args.text.now.bytes.items c.loop-number.text.bytes.items)
    (take_all c.loop-number.number-index c.args.numbers.now c.loop-number-test.false) c.loop-number.invariant
